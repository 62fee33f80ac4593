-- The written form of what a line says: its kind, one blank, and its fields in shortest lower-case
-- hexadecimal, separated by one blank. Texts and names stand after their size in file version 3.
-- The written form of what an item says, and which contents have one that is read as the same again
-- in a trace of a form.
use Rattle.std.specs.Prelude.{◌≡◌, ◌≢◌, ◌⊎◌, ℕ, ◌%◌, ◌^◌, ◌<◌, ◌≤◌, ◌==◌, if◌then◌else◌, List, [], ◌∷◌, ◌++◌, length}
use Rattle.std.specs.Prelude.{codes}
use Rattle.std.specs.List.{AllByRecursion}
use Rattle.hp_num.specs.Hexadecimal.{hexadecimal}
pub use Rattle.hp_num.specs.Spelled.{spelled}
use Rattle.ht_lines.specs.declared.item.Form.{Form}
use Rattle.ht_lines.specs.declared.item.Form.TheVariants.{Raw, Interpreted}
use Rattle.ht_lines.specs.Content.{Content, version_line, executable_line, command_line, system_line, string_line}
use Rattle.ht_lines.specs.Content.{clear_line, module_line, instruction_line, node_line, info_line, allocation_line}
use Rattle.ht_lines.specs.Content.{free_line, raw_allocation_line, raw_free_line, clock_line, resident_line}
use Rattle.ht_lines.specs.Content.{attached_line, suppression_line, comment_line, other_line}
use Rattle.ht_lines.specs.Fields.{numbers}
use Rattle.ht_lines.specs.Kinds.{IsOther}
use Rattle.ht_lines.specs.Reads.{RangesFit}

-- a text or a name, in file version 3 after its size and a blank
abbrev pub spelled_text : ℕ → List ℕ → List ℕ
spelled_text version bytes = if version == 3 then hexadecimal (length bytes) ++ (32 ∷ bytes)
    else bytes

-- the line, without a line feed
abbrev pub written : ℕ → Content → List ℕ
written version (version_line heaptrack file) = codes "v" ++ spelled (heaptrack ∷ file ∷ [])
written version (executable_line bytes) = codes "x " ++ spelled_text version bytes
written version (command_line bytes) = codes "X " ++ spelled_text version bytes
written version (suppression_line bytes) = codes "S " ++ spelled_text version bytes
written version (system_line page pages) = codes "I" ++ spelled (page ∷ pages ∷ [])
written version (string_line bytes) = codes "s " ++ spelled_text version bytes
written version clear_line = codes "m -"
written version (module_line name start ranges) = codes "m "
    ++ (spelled_text version name ++ spelled (start ∷ ranges))
written version (instruction_line ip module_string frames) = codes "i"
    ++ spelled (ip ∷ module_string ∷ frames)
written version (node_line ip parent) = codes "t" ++ spelled (ip ∷ parent ∷ [])
written version (info_line size trace) = codes "a" ++ spelled (size ∷ trace ∷ [])
written version (allocation_line info) = codes "+" ++ spelled (info ∷ [])
written version (free_line info) = codes "-" ++ spelled (info ∷ [])
written version (raw_allocation_line size trace ptr) = codes "+"
    ++ spelled (size ∷ trace ∷ ptr ∷ [])
written version (raw_free_line ptr) = codes "-" ++ spelled (ptr ∷ [])
written version (clock_line ms) = codes "c" ++ spelled (ms ∷ [])
written version (resident_line pages) = codes "R" ++ spelled (pages ∷ [])
written version attached_line = codes "A"
written version (comment_line bytes) = codes "#" ++ bytes
written version (other_line bytes) = bytes

-- the line of a kind and a text, with its line feed
abbrev pub text_line : List ℕ → ℕ → List ℕ → List ℕ
text_line kind version text = (kind ++ spelled_text version text) ++ (10 ∷ [])

-- the line of a module with its ranges, with its line feed
abbrev pub module_text : ℕ → List ℕ → ℕ → List ℕ → List ℕ
module_text version name start tail
    = written version (module_line name start (numbers tail)) ++ (10 ∷ [])

-- the line of an instruction with its frames, with its line feed
abbrev pub instr_text : ℕ → ℕ → List ℕ → List ℕ
instr_text ip module_string tail = (105 ∷ spelled (ip ∷ module_string ∷ numbers tail)) ++ (10 ∷ [])

-- the numbers fit 64 bits
abbrev pub AreWords : List ℕ → Type 0
AreWords ns = AllByRecursion (λ n. n < 2 ^ 64) ns

-- what some line of a trace of this form says in this file version
abbrev pub IsWritable : Form → ℕ → Content → Type 0
IsWritable form version (version_line heaptrack file) = (heaptrack < 2 ^ 64) × (1 ≤ file)
    × (file ≤ 3)
IsWritable form version (executable_line bytes) = length bytes < 2 ^ 64
IsWritable form version (command_line bytes) = length bytes < 2 ^ 64
IsWritable form version (suppression_line bytes) = length bytes < 2 ^ 64
IsWritable form version (system_line page pages) = AreWords (page ∷ pages ∷ [])
IsWritable form version (string_line bytes) = (length bytes < 2 ^ 64) × (form ≡ Interpreted)
IsWritable form version clear_line = Unit {0}
IsWritable form version (module_line name start ranges) = (length name < 2 ^ 64)
    × (version ≢ 3 → (0 < length name) × AllByRecursion (λ b. b ≢ 32) name)
    × AreWords (start ∷ ranges) × (length ranges % 2 ≡ 0) × RangesFit start ranges
IsWritable form version (instruction_line ip module_string frames) = AreWords
    (ip ∷ module_string ∷ frames)
    × ((length frames % 3 ≡ 1) ⊎ (length frames % 3 ≡ 0)) × (form ≡ Interpreted)
IsWritable form version (node_line ip parent) = AreWords (ip ∷ parent ∷ [])
IsWritable form version (info_line size trace) = AreWords (size ∷ trace ∷ []) × (form ≡ Interpreted)
IsWritable form version (allocation_line info) = (info < 2 ^ 64) × (form ≡ Interpreted)
IsWritable form version (free_line info) = (info < 2 ^ 64) × (form ≡ Interpreted)
IsWritable form version (raw_allocation_line size trace ptr) = AreWords (size ∷ trace ∷ ptr ∷ [])
    × (form ≡ Raw)
IsWritable form version (raw_free_line ptr) = (ptr < 2 ^ 64) × (form ≡ Raw)
IsWritable form version (clock_line ms) = ms ≤ 2 ^ 62
IsWritable form version (resident_line pages) = pages < 2 ^ 64
IsWritable form version attached_line = Unit {0}
IsWritable form version (comment_line bytes) = Unit {0}
IsWritable form version (other_line bytes) = IsOther bytes
