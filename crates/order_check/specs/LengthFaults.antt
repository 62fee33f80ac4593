-- The faults of the length of lines. The line behind so many is too long, or ends behind the most
-- bytes of a file; none of the first so many has such a fault.
use Rattle.std.specs.Prelude.{ℕ, zero, suc, ◌-◌, ◌<◌, List, length}
use Rattle.hp_outside.specs.Lines.{after_line}
use Rattle.hp_outside.specs.NextLine.{IsInputTooLong, IsLineTooLong}

-- what stands behind the first so many lines of a file
abbrev pub behind_lines : List ℕ → ℕ → List ℕ
behind_lines bytes zero = bytes
behind_lines bytes (suc count) = after_line (behind_lines bytes count)

-- how many bytes stand before that
abbrev pub length_before : List ℕ → ℕ → ℕ
length_before bytes count = length bytes - length (behind_lines bytes count)

-- more bytes than a line may have stand in the line behind so many, within the bytes that a file may have
abbrev pub LineTooLongAt : ℕ → ℕ → List ℕ → ℕ → Type 0
LineTooLongAt input line bytes count = IsLineTooLong input line (length_before bytes count)
    (behind_lines bytes count)

-- the file has more bytes than it may have, and the line behind so many doesn't end within those
abbrev pub InputTooLongAt : ℕ → ℕ → List ℕ → ℕ → Type 0
InputTooLongAt input line bytes count = IsInputTooLong input line (length_before bytes count)
    (behind_lines bytes count)

-- none of the first so many lines has such a fault
abbrev pub HasNoLengthFault : ℕ → ℕ → List ℕ → ℕ → Type 0
HasNoLengthFault input line bytes count =
    (before : ℕ) → before < count
    → ¬ (LineTooLongAt input line bytes before) × ¬ (InputTooLongAt input line bytes before)
