-- Whatever a store tells and does, how the reading of a file by lines may end; a read that failed
-- is told only where no line that was taken whole before it has a fault.
use Rattle.std.specs.Prelude.{◌≡◌, ◌≤◌, ◌+◌, ◌-◌, ℕ, true, false, List, [], ◌++◌, length, take, Option, Some, None}
use Rattle.hp_outside.specs.Faults.{Faulted}
use Rattle.hp_outside.specs.Folder.{Folder, file_of}
use Rattle.hp_outside.specs.Lines.{lines_of}
use Rattle.hp_outside.specs.NextLine.{IsUndecided}
use Rattle.hp_outside.specs.Taken.{WhereTold}
use Rattle.command_frame.specs.Told.{Told}
use Rattle.command_frame.specs.Report.{Report, written}
use Rattle.command_frame.specs.FirstFault.{Bounds, bytes_of_lines, file_fault, first_fault, line_faults}
use Rattle.command_frame.specs.Moment.{Moment, Opened}
use Rattle.command_frame.specs.Texts.{Texts}
use Rattle.command_frame.specs.Answer.{Answer, absent_answer, closed_answer, line_answer, memory_answer, refused}
use Rattle.command_frame.specs.Answer.{unread_answer, write_answer}

-- how the reading of a file by lines ended, with the lines that were taken
pub data FileEnd : Type 0 where
  -- memory was wanting before the file was opened
  Unopened : FileEnd
  Absent : FileEnd
  CannotOpen : FileEnd
  CannotRead : List (List ℕ) → FileEnd
  -- the line of a number, or the end, has a fault
  Refused : List (List ℕ) → ℕ → Told → FileEnd
  -- memory was wanting
  Wanting : List (List ℕ) → FileEnd
  -- standard output took no more than so many bytes of what the lines give
  Unwritten : List (List ℕ) → ℕ → FileEnd
  -- all lines were taken, without a fault
  Passed : List (List ℕ) → FileEnd

-- lines that stand at the front of the file and have no fault
pub record GoodFront (bounds : Bounds) (report : Report) (bytes : List ℕ)
    (taken : List (List ℕ)) : Type 0 where
  pub more : List (List ℕ)
  pub lines_are : lines_of bytes ≡ taken ++ more
  pub no_fault : first_fault 1 (line_faults bounds report (length bytes) [] taken) ≡ None

-- a failed read came before any fault: the lines that were taken whole before it, each with its line feed, have none,
-- and the bytes taken after them, which are kept, show no fault of the next line's length. The lines taken, each with
-- a line feed, reach to the bytes that are kept, so that the line feed before those isn't left out
pub record StoppedBefore (bounds : Bounds) (report : Report) (bytes : List ℕ)
    (left : Option (List ℕ)) (taken : List (List ℕ)) : Type 0 where
  pub kept : List ℕ
  pub unread : List ℕ
  pub left_is : left ≡ Some unread
  pub lines_are : lines_of bytes ≡ taken ++ lines_of (kept ++ unread)
  pub reached : length bytes ≤ bytes_of_lines taken + length (kept ++ unread)
  pub no_fault : first_fault 1 (line_faults bounds report (length bytes) [] taken) ≡ None
  pub undecided : IsUndecided bounds.input bounds.line (length bytes - length (kept ++ unread)) kept

-- a file whose lines before that of the number are these, and whose first fault stands at that line
pub record RefusedAt (bounds : Bounds) (report : Report) (bytes : List ℕ) (taken : List (List ℕ))
    (number : ℕ) (told : Told) : Type 0 where
  pub refusal : file_fault bounds report bytes ≡ Some (record { number = number; told = told })
  pub before : taken ≡ take (number - 1) (lines_of bytes)
  pub front : GoodFront bounds report bytes taken

-- a file of these lines without a fault
pub record PassedWhole (bounds : Bounds) (report : Report) (bytes : List ℕ)
    (taken : List (List ℕ)) : Type 0 where
  pub no_fault : file_fault bounds report bytes ≡ None
  pub lines_are : taken ≡ lines_of bytes

-- what an end says of a file of these bytes, of which this is left
abbrev pub EndsAt : Bounds → Report → List ℕ → Option (List ℕ) → FileEnd → Type 0
EndsAt bounds report bytes left Unopened = Unit {0}
EndsAt bounds report bytes left Absent = ⊥
EndsAt bounds report bytes left CannotOpen = Unit {0}
EndsAt bounds report bytes left (CannotRead taken) = StoppedBefore bounds report bytes left taken
EndsAt bounds report bytes left (Refused taken number told) = RefusedAt bounds report bytes taken
    number told
EndsAt bounds report bytes left (Wanting taken) = GoodFront bounds report bytes taken
EndsAt bounds report bytes left (Unwritten taken count) = GoodFront bounds report bytes taken
EndsAt bounds report bytes left (Passed taken) = PassedWhole bounds report bytes taken

-- where the folder has this file, or none of the name
abbrev pub EndsIn : Bounds → Report → Option (List ℕ) → Option (List ℕ) → FileEnd → Type 0
EndsIn bounds report (Some bytes) left end = EndsAt bounds report bytes left end
EndsIn bounds report None left Unopened = Unit {0}
EndsIn bounds report None left Absent = Unit {0}
EndsIn bounds report None left (Wanting taken) = taken ≡ []
EndsIn bounds report None left _ = ⊥

-- what an end says of the store's calls, and of its faults; a store that doesn't tell its files is
-- absent of one only where a call failed
abbrev pub Calls : Option Folder → Moment → Moment → FileEnd → Type 0
Calls files before now Unopened = now ≡ before
Calls files before now Absent = Opened before now false
    × (files ≡ None → Faulted before.faults now.faults)
Calls files before now CannotOpen = Opened before now false × Faulted before.faults now.faults
Calls files before now (CannotRead taken) = Opened before now true × Faulted before.faults now.faults
Calls files before now (Refused taken number told) = Opened before now true
    × (now.faults ≡ before.faults)
Calls files before now (Wanting taken) = now.opens ≡ before.opens + 1
Calls files before now (Unwritten taken count) = now.opens ≡ before.opens + 1
Calls files before now (Passed taken) = Opened before now true × (now.faults ≡ before.faults)
    × WhereTold now.left (λ left. left ≡ [])

-- how reading a named file by lines ended
pub record FileRead (bounds : Bounds) (files : Option Folder) (name : List ℕ) (report : Report)
    (before now : Moment) (end : FileEnd) : Type 0 where
  pub told : WhereTold files (λ folder. EndsIn bounds report (file_of folder name) now.left end)
  pub calls : Calls files before now end

-- the bytes that standard output has gained at an end
abbrev pub end_output : Report → FileEnd → List ℕ
end_output report Unopened = []
end_output report Absent = []
end_output report CannotOpen = []
end_output report (CannotRead taken) = written report taken
end_output report (Refused taken number told) = written report taken
end_output report (Wanting taken) = written report taken
end_output report (Unwritten taken count) = take count (written report taken)
end_output report (Passed taken) = written report taken

-- the message and the status of an end that isn't the last line
abbrev pub end_answer : Texts → List ℕ → FileEnd → Answer
end_answer texts name Unopened = memory_answer texts
end_answer texts name Absent = absent_answer texts name
end_answer texts name CannotOpen = closed_answer texts name
end_answer texts name (CannotRead taken) = unread_answer texts name
end_answer texts name (Refused taken number told) = line_answer texts name number told
end_answer texts name (Wanting taken) = memory_answer texts
end_answer texts name (Unwritten taken count) = write_answer texts
end_answer texts name (Passed taken) = refused [] 0
