-- The content of a line of a trace of a form, or its fault, as a function of the line: what `Reads` and `Refuses`
-- determine.
use Rattle.std.specs.Prelude.{ℕ, ◌+◌, ◌%◌, ◌^◌, Bool, true, ◌==◌, ◌&&◌, ◌||◌, if◌then◌else◌, List, [], ◌∷◌, length}
use Rattle.std.specs.Prelude.{drop, map, nat_lt, nat_le, codes, Option, Some, None, Result, Ok, Err}
use Rattle.std.specs.Str.{bytes_eq}
use Rattle.hp_num.specs.ParsedHex.{parsed_hex}
use Rattle.ht_lines.specs.declared.item.Malformed.{Malformed}
use Rattle.ht_lines.specs.declared.item.Malformed.TheVariants.{BadField, MissingField, ExtraField, NotInterpreted}
use Rattle.ht_lines.specs.declared.item.Malformed.TheVariants.{NotRaw, BadVersion}
use Rattle.ht_lines.specs.declared.item.Form.{Form}
use Rattle.ht_lines.specs.declared.item.Form.TheVariants.{Raw, Interpreted}
use Rattle.ht_lines.specs.Content.{Content, version_line, executable_line, command_line, system_line, string_line}
use Rattle.ht_lines.specs.Content.{clear_line, module_line, instruction_line, node_line, info_line, allocation_line}
use Rattle.ht_lines.specs.Content.{free_line, raw_allocation_line, raw_free_line, clock_line, resident_line}
use Rattle.ht_lines.specs.Content.{attached_line, suppression_line, comment_line, other_line}
use Rattle.ht_lines.specs.Fields.{fields, field_ends, all_numbers, number}
use Rattle.ht_lines.specs.SizedText.{text_of}
use Rattle.ht_lines.specs.ModuleName.{module_name}
use Rattle.ht_lines.specs.Kinds.{is_foreign, is_kind}

-- go on with the number, where there is one
abbrev pub with_number : {X : Type 0} → Option ℕ → (ℕ → Result X Malformed) → Result X Malformed
with_number None next = Err BadField
with_number (Some n) next = next n

-- the numbers that two fields are
abbrev pub both_numbers : List ℕ → List ℕ → Result (ℕ × ℕ) Malformed
both_numbers first second = with_number (parsed_hex first)
    (λ m. with_number (parsed_hex second) (λ n. Ok (m, n)))

-- the one field's number
abbrev pub one_number : List (List ℕ) → Result ℕ Malformed
one_number [] = Err MissingField
one_number (a ∷ []) = with_number (parsed_hex a) Ok
one_number (a ∷ b ∷ more) = Err ExtraField

-- the two fields' numbers
abbrev pub two_numbers : List (List ℕ) → Result (ℕ × ℕ) Malformed
two_numbers [] = Err MissingField
two_numbers (a ∷ []) = Err MissingField
two_numbers (a ∷ b ∷ []) = with_number (parsed_hex a)
    (λ m. with_number (parsed_hex b) (λ n. Ok (m, n)))
two_numbers (a ∷ b ∷ c ∷ more) = Err ExtraField

-- the three fields' numbers, where one field alone is that of an interpreted trace
abbrev pub three_numbers : List (List ℕ) → Result (ℕ × ℕ × ℕ) Malformed
three_numbers [] = Err MissingField
three_numbers (a ∷ []) = Err NotRaw
three_numbers (a ∷ b ∷ []) = Err MissingField
three_numbers (a ∷ b ∷ c ∷ []) =
    with_number (parsed_hex a)
    (λ l. with_number (parsed_hex b) (λ m. with_number (parsed_hex c) (λ n. Ok (l, m, n))))
three_numbers (a ∷ b ∷ c ∷ d ∷ more) = Err ExtraField

-- what the number or the numbers say
abbrev pub say : {X : Type 0} → (X → Content) → Result X Malformed → Result Content Malformed
say f (Ok x) = Ok (f x)
say f (Err fault) = Err fault

abbrev pub version_of : List (List ℕ) → Result Content Malformed
version_of [] = Err MissingField
version_of (a ∷ []) = with_number (parsed_hex a) (λ heaptrack. Ok (version_line heaptrack 1))
version_of (a ∷ b ∷ []) = with_number (parsed_hex a)
    (λ heaptrack. with_number (parsed_hex b) (λ file.
    if nat_le 1 file && nat_le file 3 then Ok (version_line heaptrack file) else Err BadVersion))
version_of (a ∷ b ∷ c ∷ more) = Err ExtraField

-- what the version of heaptrack and that of the file say
abbrev pub version_from : Result (ℕ × ℕ) Malformed → Result Content Malformed
version_from (Ok x) = if nat_le 1 x.1 && nat_le x.1 3 then Ok (version_line x.0 x.1)
    else Err BadVersion
version_from (Err fault) = Err fault

abbrev pub instruction_from : List ℕ → Result Content Malformed
instruction_from [] = Err MissingField
instruction_from (ip ∷ []) = Err MissingField
instruction_from (ip ∷ module_string ∷ frames) = Ok (instruction_line ip module_string frames)

-- an ip, the string of a module, and frames of three fields each, of which the first may be one
-- field, its function alone
unfoldable pub instruction_of : List (List ℕ) → Result Content Malformed
instruction_of fs =
    if length fs == 0 || length fs % 3 == 1 then Err MissingField
    else if all_numbers fs then instruction_from (map number fs) else Err BadField

-- the one field's number, where three fields are those of a raw trace
abbrev pub info_number : List (List ℕ) → Result ℕ Malformed
info_number [] = Err MissingField
info_number (a ∷ []) = with_number (parsed_hex a) Ok
info_number (a ∷ b ∷ []) = Err ExtraField
info_number (a ∷ b ∷ c ∷ []) = Err NotInterpreted
info_number (a ∷ b ∷ c ∷ d ∷ more) = Err ExtraField

abbrev pub allocation_of : Form → List (List ℕ) → Result Content Malformed
allocation_of Interpreted fs = say allocation_line (info_number fs)
allocation_of Raw fs = say (λ x. raw_allocation_line x.0 x.1 x.2) (three_numbers fs)

abbrev pub free_of : Form → List (List ℕ) → Result Content Malformed
free_of Interpreted fs = say free_line (one_number fs)
free_of Raw fs = say raw_free_line (one_number fs)

abbrev pub clock_from : Result ℕ Malformed → Result Content Malformed
clock_from (Ok ms) = if nat_le ms (2 ^ 62) then Ok (clock_line ms) else Err BadField
clock_from (Err fault) = Err fault

-- whether no range of a module ends above 2 ^ 64 - 1
abbrev pub ranges_fit : ℕ → List ℕ → Bool
ranges_fit start [] = true
ranges_fit start (offset ∷ []) = true
ranges_fit start (offset ∷ size ∷ more) = nat_lt (start + offset + size) (2 ^ 64)
    && ranges_fit start more

abbrev pub ranges_from : List ℕ → List ℕ → Result Content Malformed
ranges_from name [] = Err MissingField
ranges_from name (start ∷ ranges) = if ranges_fit start ranges
    then Ok (module_line name start ranges) else Err BadField

unfoldable pub named_module : List ℕ → List ℕ → Result Content Malformed
named_module name tail =
    if length (fields tail) == 0 && bytes_eq name (codes "-") then Ok clear_line
    else if length (fields tail) % 2 == 0 then Err MissingField
    else if all_numbers (fields tail) then ranges_from name (map number (fields tail))
    else Err BadField

abbrev pub module_of : Option (List ℕ × List ℕ) → Result Content Malformed
module_of None = Err MissingField
module_of (Some x) = named_module x.0 x.1

-- a line of a known kind, of which rest follows the kind
unfoldable pub reading_kind : Form → ℕ → ℕ → List ℕ → Result Content Malformed
reading_kind form version kind rest =
    if kind == 118 then version_of (fields rest)
    else if kind == 120 then Ok (executable_line (text_of version (drop 1 rest)))
    else if kind == 88 then Ok (command_line (text_of version (drop 1 rest)))
    else if kind == 83 then Ok (suppression_line (text_of version (drop 1 rest)))
    else if kind == 73 then say (λ x. system_line x.0 x.1) (two_numbers (fields rest))
    else if kind == 115 then Ok (string_line (text_of version (drop 1 rest)))
    else if kind == 109 then module_of (module_name version rest)
    else if kind == 105 then instruction_of (fields rest)
    else if kind == 116 then say (λ x. node_line x.0 x.1) (two_numbers (fields rest))
    else if kind == 97 then say (λ x. info_line x.0 x.1) (two_numbers (fields rest))
    else if kind == 43 then allocation_of form (fields rest)
    else if kind == 45 then free_of form (fields rest)
    else if kind == 99 then clock_from (one_number (fields rest))
    else if kind == 82 then say resident_line (one_number (fields rest))
    else Ok attached_line

unfoldable pub reading : Form → ℕ → List ℕ → Result Content Malformed
reading form version [] = Ok (other_line [])
reading form version (b ∷ rest) =
    if b == 35 then Ok (comment_line rest)
    else if is_foreign form b then Err NotRaw
    else if is_kind b then (if field_ends rest then reading_kind form version b rest
    else Err BadField)
    else Ok (other_line (b ∷ rest))
