-- Lines that may stand before the version line bring no info.
use Rattle.std.proofs.Common.{◌≡◌, ℕ, Bool, true, false, cond, List, [], ◌∷◌, Option, Some, None, Result, Ok, Err, refl}
use Rattle.std.proofs.Common.{◌∙◌, inl, inr}
use Rattle.std.specs.Prelude.{◌&&◌, nat_le, if◌then◌else◌}
use Rattle.std.specs.Result.{result_ok}
use Rattle.std.specs.List.{filter_map, cons_option, AllByRecursion}
use Rattle.std.proofs.lemmas.Bool.{false≢true}
use Rattle.hp_num.specs.ParsedHex.{parsed_hex}
use Rattle.ht_lines.specs.declared.item.Malformed.{Malformed}
use Rattle.ht_lines.specs.declared.item.Malformed.TheVariants.{BadField, BadVersion}
use Rattle.ht_lines.specs.declared.item.Form.TheVariants.{Interpreted}
use Rattle.ht_lines.specs.Content.{Content, version_line}
use Rattle.ht_lines.specs.Fields.{field_ends, fields}
use Rattle.ht_lines.specs.Reading.{reading, reading_kind, version_of, with_number}
use Rattle.ht_trace.specs.TraceLists.{infos}
use Rattle.ht_trace.specs.VersionLines.{may_stand_first}
use Rattle.ht_trace.proofs.VersionLemmas.{byte_of}

-- what was read, or its fault, brings no info
abbrev BringsNone : Result Content Malformed → Type 0
BringsNone read = (said : List Content) → infos (cons_option (result_ok read) said) ≡ infos said

by_test : (test : Bool) (read : Result Content Malformed) (fault : Malformed) → BringsNone read
    → BringsNone (if test then read else Err fault)
by_test true read fault none = none
by_test false read fault none = λ said. refl

by_number : (n : Option ℕ) (next : ℕ → Result Content Malformed) → ((m : ℕ) → BringsNone (next m))
    → BringsNone (with_number n next)
by_number None next none = λ said. refl
by_number (Some n) next none = none n

-- the fields of a version line
version_brings : (fs : List (List ℕ)) → BringsNone (version_of fs)
version_brings [] = λ said. refl
version_brings (a ∷ []) = by_number (parsed_hex a) (λ heaptrack. Ok (version_line heaptrack 1)) (λ heaptrack said. refl)
version_brings (a ∷ b ∷ []) =
    by_number (parsed_hex a) _ (λ heaptrack.
    by_number (parsed_hex b) _
    (λ file. by_test (nat_le 1 file && nat_le file 3) (Ok (version_line heaptrack file)) BadVersion (λ said. refl)))
version_brings (a ∷ b ∷ c ∷ more) = λ said. refl

-- a comment or a version line
line_brings : (version : ℕ) (line : List ℕ) → may_stand_first line ≡ true
    → BringsNone (reading Interpreted version line)
unfolding reading reading_kind
line_brings version [] may = absurd (false≢true may)
line_brings version (b ∷ rest) may = elim (byte_of b may) [
  | inl is ↦ rw is (λ said. refl)
  | inr is ↦ rw is (by_test (field_ends rest) (version_of (fields rest)) BadField (version_brings (fields rest)))
]

-- several of them
pub first_bring_none : (version : ℕ) (lines : List (List ℕ))
    → AllByRecursion (λ line. may_stand_first line ≡ true) lines
    → infos (filter_map (λ line. result_ok (reading Interpreted version line)) lines) ≡ []
first_bring_none version [] all = refl
first_bring_none version (line ∷ lines) all =
    line_brings version line all.0 (filter_map (λ line. result_ok (reading Interpreted version line)) lines)
    ∙ first_bring_none version lines all.1
