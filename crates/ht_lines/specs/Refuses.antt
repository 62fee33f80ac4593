-- Which lines of a trace of a form are refused, and with which fault: the refusing side of `Reads`.
use Rattle.std.specs.Prelude.{◌≡◌, ◌≢◌, ◌⊎◌, ℕ, ◌%◌, ◌^◌, ◌<◌, ◌≤◌, List, [], ◌∷◌, length, codes}
use Rattle.ht_lines.specs.declared.item.Malformed.{Malformed}
use Rattle.ht_lines.specs.declared.item.Malformed.TheVariants.{BadField, MissingField, ExtraField, NotInterpreted}
use Rattle.ht_lines.specs.declared.item.Malformed.TheVariants.{NotRaw, BadVersion}
use Rattle.ht_lines.specs.declared.item.Form.{Form}
use Rattle.ht_lines.specs.declared.item.Form.TheVariants.{Raw, Interpreted}
use Rattle.ht_lines.specs.Fields.{fields, AreNumbers}
use Rattle.ht_lines.specs.ModuleName.{IsModuleName}
use Rattle.ht_lines.specs.Kinds.{IsOfKind, IsForeign, HasWrongSecondByte, after_kind, fields_of}
use Rattle.ht_lines.specs.Reads.{RangesFit}

-- some field is no number
abbrev pub AreNoNumbers : List (List ℕ) → Type 0
AreNoNumbers fs = (ns : List ℕ) → ¬ AreNumbers fs ns

-- n numbers are wanted
abbrev pub RefusesNumbers : ℕ → List (List ℕ) → Malformed → Type 0
RefusesNumbers n fs MissingField = length fs < n
RefusesNumbers n fs ExtraField = n < length fs
RefusesNumbers n fs BadField = (length fs ≡ n) × AreNoNumbers fs
RefusesNumbers n fs _ = ⊥

-- one or two numbers are wanted, the second from 1 to 3
abbrev pub RefusesVersion : List (List ℕ) → Malformed → Type 0
RefusesVersion fs MissingField = length fs ≡ 0
RefusesVersion fs ExtraField = 2 < length fs
RefusesVersion fs BadField = (0 < length fs) × (length fs ≤ 2) × AreNoNumbers fs
RefusesVersion fs BadVersion = (heaptrack file : ℕ) × AreNumbers fs (heaptrack ∷ file ∷ [])
    × ((file ≡ 0) ⊎ (3 < file))
RefusesVersion fs _ = ⊥

-- 2, 3, 5, 6, 8, 9 and so on numbers are wanted
abbrev pub RefusesInstruction : List (List ℕ) → Malformed → Type 0
RefusesInstruction fs MissingField = (length fs ≡ 0) ⊎ (length fs % 3 ≡ 1)
RefusesInstruction fs BadField = (0 < length fs) × (length fs % 3 ≢ 1) × AreNoNumbers fs
RefusesInstruction fs _ = ⊥

-- one number is wanted, and in a raw trace three; as many fields as the other form wants are its own fault
abbrev pub RefusesAllocation : Form → List (List ℕ) → Malformed → Type 0
RefusesAllocation Interpreted fs NotInterpreted = length fs ≡ 3
RefusesAllocation Interpreted fs MissingField = length fs ≡ 0
RefusesAllocation Interpreted fs ExtraField = (1 < length fs) × (length fs ≢ 3)
RefusesAllocation Interpreted fs BadField = (length fs ≡ 1) × AreNoNumbers fs
RefusesAllocation Interpreted fs _ = ⊥
RefusesAllocation Raw fs NotRaw = length fs ≡ 1
RefusesAllocation Raw fs MissingField = (length fs < 3) × (length fs ≢ 1)
RefusesAllocation Raw fs ExtraField = 3 < length fs
RefusesAllocation Raw fs BadField = (length fs ≡ 3) × AreNoNumbers fs
RefusesAllocation Raw fs _ = ⊥

-- one number up to 2 ^ 62 is wanted
abbrev pub RefusesClock : List (List ℕ) → Malformed → Type 0
RefusesClock fs MissingField = length fs ≡ 0
RefusesClock fs ExtraField = 1 < length fs
RefusesClock fs BadField = (length fs ≡ 1) × ((ms : ℕ) → AreNumbers fs (ms ∷ []) → 2 ^ 62 < ms)
RefusesClock fs _ = ⊥

-- a name is wanted and an odd number of numbers, or the name `-` alone
abbrev pub RefusesModule : ℕ → List ℕ → Malformed → Type 0
RefusesModule version rest MissingField = (fields rest ≡ [])
    ⊎ ((name tail : List ℕ) × IsModuleName version rest name tail × (length (fields tail) % 2 ≡ 0)
    × ¬ ((name ≡ codes "-") × (fields tail ≡ [])))
RefusesModule version rest BadField = (name tail : List ℕ) × IsModuleName version rest name tail
    × (length (fields tail) % 2 ≡ 1)
    × ((start : ℕ) (ranges : List ℕ) → AreNumbers (fields tail) (start ∷ ranges)
    → ¬ RangesFit start ranges)
RefusesModule version rest _ = ⊥

-- a kind of the other form, a wrong second byte, or what the line's kind refuses
pub data Refuses (form : Form) (version : ℕ) (line : List ℕ) (fault : Malformed) : Type 0 where
  in_kind : IsForeign form line → fault ≡ NotRaw → Refuses form version line fault
  in_second_byte : HasWrongSecondByte line → ¬ IsForeign form line → fault ≡ BadField
      → Refuses form version line fault
  in_version : IsOfKind 118 line → RefusesVersion (fields_of line) fault
      → Refuses form version line fault
  in_system : IsOfKind 73 line → RefusesNumbers 2 (fields_of line) fault
      → Refuses form version line fault
  in_module : IsOfKind 109 line → RefusesModule version (after_kind line) fault
      → Refuses form version line fault
  in_instruction : form ≡ Interpreted → IsOfKind 105 line
      → RefusesInstruction (fields_of line) fault → Refuses form version line fault
  in_node : IsOfKind 116 line → RefusesNumbers 2 (fields_of line) fault
      → Refuses form version line fault
  in_info : form ≡ Interpreted → IsOfKind 97 line → RefusesNumbers 2 (fields_of line) fault
      → Refuses form version line fault
  in_allocation : IsOfKind 43 line → RefusesAllocation form (fields_of line) fault
      → Refuses form version line fault
  in_free : IsOfKind 45 line → RefusesNumbers 1 (fields_of line) fault
      → Refuses form version line fault
  in_clock : IsOfKind 99 line → RefusesClock (fields_of line) fault
      → Refuses form version line fault
  in_resident : IsOfKind 82 line → RefusesNumbers 1 (fields_of line) fault
      → Refuses form version line fault
