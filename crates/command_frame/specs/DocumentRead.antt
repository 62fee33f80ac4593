-- How the reading of a named file as a whole may end, whatever a store tells and does. The same of
-- a file that is read whole: no fault of it is told where a read failed, and any but that it is too
-- long only where its end was read.
use Rattle.std.specs.Prelude.{◌≡◌, ◌+◌, ℕ, true, false, List, [], Option, Some, None}
use Rattle.hp_outside.specs.Faults.{Faulted}
use Rattle.hp_outside.specs.Folder.{Folder, file_of}
use Rattle.hp_outside.specs.Taken.{WhereTold}
use Rattle.command_frame.specs.FirstFault.{Bounds, input_too_long}
use Rattle.command_frame.specs.WholeFault.{whole_fault}
use Rattle.command_frame.specs.Moment.{Moment, Opened}
use Rattle.command_frame.specs.Texts.{Texts}
use Rattle.command_frame.specs.Answer.{Answer, absent_answer, closed_answer, file_answer, memory_answer, refused}
use Rattle.command_frame.specs.Answer.{unread_answer}

pub data DocumentEnd : Type 0 where
  -- memory was wanting before the file was opened
  Unopened : DocumentEnd
  Absent : DocumentEnd
  CannotOpen : DocumentEnd
  CannotRead : DocumentEnd
  -- the file has more bytes than a file may have
  TooLong : DocumentEnd
  -- memory was wanting
  Wanting : DocumentEnd
  -- these are all bytes of the file, and they are no more than a file may have
  Whole : List ℕ → DocumentEnd

-- what an end says of a file of these bytes
abbrev pub EndsWith : Bounds → List ℕ → DocumentEnd → Type 0
EndsWith bounds bytes Absent = ⊥
EndsWith bounds bytes TooLong = whole_fault bounds bytes ≡ Some input_too_long
EndsWith bounds bytes (Whole taken) = (taken ≡ bytes) × (whole_fault bounds bytes ≡ None)
EndsWith bounds bytes _ = Unit {0}

-- where the folder has this file, or none of the name
abbrev pub EndsWhere : Bounds → Option (List ℕ) → DocumentEnd → Type 0
EndsWhere bounds (Some bytes) end = EndsWith bounds bytes end
EndsWhere bounds None Unopened = Unit {0}
EndsWhere bounds None Absent = Unit {0}
EndsWhere bounds None Wanting = Unit {0}
EndsWhere bounds None _ = ⊥

-- what an end says of the store's calls, and of its faults: no fault of the document is told where
-- a read failed, and one other than that it is too long only where its end was read
abbrev pub DocumentCalls : Option Folder → Moment → Moment → DocumentEnd → Type 0
DocumentCalls files before now Unopened = now ≡ before
DocumentCalls files before now Absent = Opened before now false
    × (files ≡ None → Faulted before.faults now.faults)
DocumentCalls files before now CannotOpen = Opened before now false × Faulted before.faults now.faults
DocumentCalls files before now CannotRead = Opened before now true × Faulted before.faults now.faults
DocumentCalls files before now TooLong = Opened before now true × (now.faults ≡ before.faults)
DocumentCalls files before now Wanting = now.opens ≡ before.opens + 1
DocumentCalls files before now (Whole taken) = Opened before now true × (now.faults ≡ before.faults)
    × WhereTold now.left (λ left. left ≡ [])

-- how reading a named file as a whole ended
pub record DocumentRead (bounds : Bounds) (files : Option Folder) (name : List ℕ)
    (before now : Moment) (end : DocumentEnd) : Type 0 where
  pub told : WhereTold files (λ folder. EndsWhere bounds (file_of folder name) end)
  pub calls : DocumentCalls files before now end

-- the answer of an end that doesn't give the bytes
abbrev pub document_end_answer : Texts → List ℕ → DocumentEnd → Answer
document_end_answer texts name Unopened = memory_answer texts
document_end_answer texts name Absent = absent_answer texts name
document_end_answer texts name CannotOpen = closed_answer texts name
document_end_answer texts name CannotRead = unread_answer texts name
document_end_answer texts name TooLong = file_answer texts name input_too_long
document_end_answer texts name Wanting = memory_answer texts
document_end_answer texts name (Whole taken) = refused [] 0
