-- Which lines of a trace of a form are read, and what they say: one case a kind. What a line of a
-- trace of a form says in a file version, or its first fault. The ranges of a module fit where none
-- ends above 2^64 - 1.
use Rattle.std.specs.Prelude.{◌≡◌, ◌⊎◌, ℕ, ◌+◌, ◌%◌, ◌^◌, ◌<◌, ◌≤◌, List, [], ◌∷◌, length, codes}
use Rattle.ht_lines.specs.declared.item.Form.{Form}
use Rattle.ht_lines.specs.declared.item.Form.TheVariants.{Raw, Interpreted}
use Rattle.ht_lines.specs.Content.{Content, version_line, executable_line, command_line, system_line, string_line}
use Rattle.ht_lines.specs.Content.{clear_line, module_line, instruction_line, node_line, info_line, allocation_line}
use Rattle.ht_lines.specs.Content.{free_line, raw_allocation_line, raw_free_line, clock_line, resident_line}
use Rattle.ht_lines.specs.Content.{attached_line, suppression_line, comment_line, other_line}
use Rattle.ht_lines.specs.Fields.{fields, AreNumbers}
use Rattle.ht_lines.specs.SizedText.{IsText}
use Rattle.ht_lines.specs.ModuleName.{IsModuleName}
use Rattle.ht_lines.specs.Kinds.{IsOfKind, IsOther, after_kind, plain_text, fields_of}

-- no range of a module ends above 2 ^ 64 - 1: each offset and size with the start
abbrev pub RangesFit : ℕ → List ℕ → Type 0
RangesFit start [] = Unit {0}
RangesFit start (offset ∷ []) = Unit {0}
RangesFit start (offset ∷ size ∷ more) = (start + offset + size < 2 ^ 64) × RangesFit start more

abbrev pub Reads : Form → ℕ → List ℕ → Content → Type 0
Reads form version line (version_line heaptrack file) = IsOfKind 118 line
    × ((AreNumbers (fields_of line) (heaptrack ∷ []) × (file ≡ 1))
    ⊎ (AreNumbers (fields_of line) (heaptrack ∷ file ∷ []) × (1 ≤ file) × (file ≤ 3)))
Reads form version line (executable_line bytes) = IsOfKind 120 line
    × IsText version (plain_text line) bytes
Reads form version line (command_line bytes) = IsOfKind 88 line
    × IsText version (plain_text line) bytes
Reads form version line (suppression_line bytes) = IsOfKind 83 line
    × IsText version (plain_text line) bytes
Reads form version line (system_line page pages) = IsOfKind 73 line
    × AreNumbers (fields_of line) (page ∷ pages ∷ [])
Reads form version line (string_line bytes) = IsOfKind 115 line
    × IsText version (plain_text line) bytes × (form ≡ Interpreted)
Reads form version line clear_line = IsOfKind 109 line
    × ((tail : List ℕ) × IsModuleName version (after_kind line) (codes "-") tail
    × (fields tail ≡ []))
Reads form version line (module_line name start ranges) = IsOfKind 109 line
    × ((tail : List ℕ) × IsModuleName version (after_kind line) name tail
    × AreNumbers (fields tail) (start ∷ ranges)
    × (length ranges % 2 ≡ 0) × RangesFit start ranges)
Reads form version line (instruction_line ip module_string frames) = IsOfKind 105 line
    × AreNumbers (fields_of line) (ip ∷ module_string ∷ frames)
    × ((length (fields_of line) % 3 ≡ 0) ⊎ (length (fields_of line) % 3 ≡ 2)) × (form ≡ Interpreted)
Reads form version line (node_line ip parent) = IsOfKind 116 line
    × AreNumbers (fields_of line) (ip ∷ parent ∷ [])
Reads form version line (info_line size trace) = IsOfKind 97 line
    × AreNumbers (fields_of line) (size ∷ trace ∷ []) × (form ≡ Interpreted)
Reads form version line (allocation_line info) = IsOfKind 43 line
    × AreNumbers (fields_of line) (info ∷ []) × (form ≡ Interpreted)
Reads form version line (free_line info) = IsOfKind 45 line
    × AreNumbers (fields_of line) (info ∷ []) × (form ≡ Interpreted)
Reads form version line (raw_allocation_line size trace ptr) = IsOfKind 43 line
    × AreNumbers (fields_of line) (size ∷ trace ∷ ptr ∷ []) × (form ≡ Raw)
Reads form version line (raw_free_line ptr) = IsOfKind 45 line
    × AreNumbers (fields_of line) (ptr ∷ []) × (form ≡ Raw)
Reads form version line (clock_line ms) = IsOfKind 99 line × AreNumbers (fields_of line) (ms ∷ [])
    × (ms ≤ 2 ^ 62)
Reads form version line (resident_line pages) = IsOfKind 82 line
    × AreNumbers (fields_of line) (pages ∷ [])
Reads form version line attached_line = IsOfKind 65 line
Reads form version line (comment_line bytes) = line ≡ 35 ∷ bytes
Reads form version line (other_line bytes) = IsOther line × (bytes ≡ line)
