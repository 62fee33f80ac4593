-- What the check of a trace answers. The answer to a file: it is whole, it is refused at a line, a
-- line's length has a fault, or a read failed behind lines without any of these.
use Rattle.std.specs.Prelude.{◌≡◌, ℕ, ◌+◌, ◌≤◌, ◌<◌, min, List, ◌++◌, length, take, Option, Some, Result, Ok, Err}
use Rattle.hp_outside.specs.Lines.{lines_of}
use Rattle.hp_outside.specs.NextLine.{IsUndecided}
use Rattle.record_scripts.specs.Job.{Job}
use Rattle.record_book.specs.Spelled.{spelled}
use Rattle.order_check.specs.declared.verdict.CheckFault.{CheckFault}
use Rattle.order_check.specs.declared.verdict.CheckFault.TheVariants.{InputTooLong, LineTooLong, NoMemory, ReadFailed}
use Rattle.order_check.specs.declared.verdict.Verdict.{Verdict}
use Rattle.order_check.specs.declared.verdict.Verdict.TheVariants.{No, Yes}
use Rattle.order_check.specs.Fronts.{BreaksOff, IsFront, IsRecording}
use Rattle.order_check.specs.LengthFaults.{HasNoLengthFault, InputTooLongAt, LineTooLongAt, behind_lines, length_before}

-- the first so many lines of a file have no fault of their length, and some recording begins with them
pub record IsGoodFront (input line : ℕ) (job : Job) (bytes : List ℕ) (count : ℕ) : Type 0 where
  pub within : count ≤ length (lines_of bytes)
  pub lengths : HasNoLengthFault input line bytes count
  pub front : IsFront job (take count (lines_of bytes))

-- the file is a recording
pub record IsWhole (input line : ℕ) (job : Job) (bytes : List ℕ) (events : ℕ) : Type 0 where
  pub lengths : HasNoLengthFault input line bytes (length (lines_of bytes))
  pub recording : IsRecording job bytes
  pub count : events ≡ length (spelled bytes)

-- the file is none: the line behind so many is the first up to which no recording begins so, or the
-- one behind the last. None up to there has a fault of its length
pub record IsRefusedAt (input line : ℕ) (job : Job) (bytes : List ℕ) (count : ℕ) : Type 0 where
  pub breaks : BreaksOff job bytes count
  pub lengths : HasNoLengthFault input line bytes (min (count + 1) (length (lines_of bytes)))

-- the line behind so many is the first with a fault of its length, and some recording begins with the lines before it
pub record IsCutAt (input line : ℕ) (job : Job) (bytes : List ℕ) (count : ℕ) (Fault : Type 0) : Type
    0 where
  pub before : IsGoodFront input line job bytes count
  pub there : count < length (lines_of bytes)
  pub fault : Fault

-- a read failed behind so many lines: the bytes that were taken before it show neither the next line nor a fault of its
-- length
pub record IsStoppedAt (input line : ℕ) (job : Job) (bytes : List ℕ) (left : Option (List ℕ))
    (count : ℕ) : Type 0 where
  pub before : IsGoodFront input line job bytes count
  pub kept : List ℕ
  pub unread : List ℕ
  pub left_is : left ≡ Some unread
  pub rest_is : behind_lines bytes count ≡ kept ++ unread
  pub undecided : IsUndecided input line (length_before bytes count) kept

-- the answer to a file of these bytes, of which this is left
abbrev pub CheckAnswer : ℕ → ℕ → Job → List ℕ → Option (List ℕ) → Result Verdict CheckFault → Type 0
CheckAnswer input line job bytes left (Ok (Yes events)) = IsWhole input line job bytes events
CheckAnswer input line job bytes left (Ok (No number)) = (count : ℕ) × (number ≡ count + 1)
    × IsRefusedAt input line job bytes count
CheckAnswer input line job bytes left (Err LineTooLong) = (count : ℕ)
    × IsCutAt input line job bytes count (LineTooLongAt input line bytes count)
CheckAnswer input line job bytes left (Err InputTooLong) = (count : ℕ)
    × IsCutAt input line job bytes count (InputTooLongAt input line bytes count)
CheckAnswer input line job bytes left (Err ReadFailed) = (count : ℕ)
    × IsStoppedAt input line job bytes left count
CheckAnswer input line job bytes left (Err NoMemory) = Unit {0}

-- an answer that tells of the file: neither want of memory nor a failed read
abbrev pub Tells : Result Verdict CheckFault → Type 0
Tells (Ok verdict) = Unit {0}
Tells (Err LineTooLong) = Unit {0}
Tells (Err InputTooLong) = Unit {0}
Tells (Err ReadFailed) = ⊥
Tells (Err NoMemory) = ⊥

-- a file has one answer of these, whatever is left of it
abbrev pub HasOneAnswer : ℕ → ℕ → Job → List ℕ → Type 0
HasOneAnswer input line job bytes = (left other_left : Option (List ℕ))
    (result other : Result Verdict CheckFault) → Tells result → Tells other
    → CheckAnswer input line job bytes left result
    → CheckAnswer input line job bytes other_left other → result ≡ other
