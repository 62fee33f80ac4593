-- The answer of a plan over a folder: the file's absence, its first fault, or the output.
use Rattle.std.specs.Prelude.{ℕ, ◌-◌, List, [], ◌++◌, Option, Some, None, take}
use Rattle.hp_outside.specs.FaultTexts.{line_text, open_text}
use Rattle.hp_outside.specs.declared.span.LineFault.TheVariants as reading
use Rattle.hp_outside.specs.declared.store.OpenFault.TheVariants as opening
use Rattle.hp_outside.specs.Folder.{Folder, file_of}
use Rattle.hp_outside.specs.Lines.{lines_of}
use Rattle.command_frame.specs.Told.{Told, code_of}
use Rattle.command_frame.specs.Report.{Report, Verdict, Writes, Refuses, written}
use Rattle.command_frame.specs.FirstFault.{Bounds, Refusal, file_fault}
use Rattle.command_frame.specs.WholeFault.{whole_fault}
use Rattle.command_frame.specs.Plan.{Plan, Document, Ends, Lines, Pieces}
use Rattle.command_frame.specs.Texts.{Texts, at_file, at_line}

-- the bytes for standard output, those for standard error, and the status
pub record Answer : Type 0 where
  pub output : List ℕ
  pub message : List ℕ
  pub status : ℕ

-- an output without a message
abbrev pub done : List ℕ → Answer
done output = record { output = output; message = []; status = 0 }

-- a message without an output
abbrev pub refused : List ℕ → ℕ → Answer
refused message status = record { output = []; message = message; status = status }

-- bytes that were written before the rest of an answer
abbrev pub after : List ℕ → Answer → Answer
after early rest = record rest { output = early ++ rest.output }

-- the answers where the words aren't taken, where memory was wanting, and where a write failed
abbrev pub usage_answer : Texts → Answer
usage_answer texts = refused texts.usage 2

abbrev pub memory_answer : Texts → Answer
memory_answer texts = refused texts.out_of_memory 5

abbrev pub write_answer : Texts → Answer
write_answer texts = refused texts.write_failed 4

-- the answers where a file is absent, and where a call on it failed
abbrev pub absent_answer : Texts → List ℕ → Answer
absent_answer texts name = refused (at_file texts name (open_text opening.Absent)) 3

abbrev pub closed_answer : Texts → List ℕ → Answer
closed_answer texts name = refused (at_file texts name (open_text opening.Failed)) 3

abbrev pub unread_answer : Texts → List ℕ → Answer
unread_answer texts name = refused (at_file texts name (line_text reading.ReadFailed)) 3

-- the answer at a fault of a line, and at one of a whole file
abbrev pub line_answer : Texts → List ℕ → ℕ → Told → Answer
line_answer texts name number told = refused (at_line texts name number told.text)
    (code_of told.status)

abbrev pub file_answer : Texts → List ℕ → Told → Answer
file_answer texts name told = refused (at_file texts name told.text) (code_of told.status)

-- the answer to what is made of all that was read, the last file having this name
abbrev pub verdict_answer : Texts → List ℕ → Verdict → Answer
verdict_answer texts last (Writes output) = done output
verdict_answer texts last (Refuses told) = file_answer texts last told

-- the answer to a file with these lines: at its refusal, the lines before the refused one have given their bytes
abbrev pub lines_answer : Texts → List ℕ → Report → List (List ℕ) → Option Refusal → Answer → Answer
lines_answer texts name report lines (Some refusal) rest =
    after (written report (take (refusal.number - 1) lines))
    (line_answer texts name refusal.number refusal.told)
lines_answer texts name report lines None rest = after (written report lines) rest

-- the answer to a named file, which the folder may lack
abbrev pub named_answer : Texts → Bounds → List ℕ → Report → Option (List ℕ)
    → (List (List ℕ) → Answer) → Answer
named_answer texts bounds name report None rest = absent_answer texts name
named_answer texts bounds name report (Some bytes) rest =
    lines_answer texts name report (lines_of bytes) (file_fault bounds report bytes)
    (rest (lines_of bytes))

-- the answer to a file that is read whole: at its fault, nothing is made of its bytes
abbrev pub whole_answer : Texts → List ℕ → Option Told → Answer → Answer
whole_answer texts name (Some told) rest = file_answer texts name told
whole_answer texts name None rest = rest

-- the answer to a named document, which the folder may lack
abbrev pub document_answer : Texts → Bounds → List ℕ → Option (List ℕ) → (List ℕ → Answer) → Answer
document_answer texts bounds name None rest = absent_answer texts name
document_answer texts bounds name (Some bytes) rest = whole_answer texts name
    (whole_fault bounds bytes) (rest bytes)

-- the answer to a plan over a folder of files, of which none may have more bytes, nor longer lines, than the bounds
abbrev pub plan_answer : Texts → Bounds → Folder → List ℕ → Plan → Answer
plan_answer texts bounds folder last (Ends verdict) = verdict_answer texts last verdict
plan_answer texts bounds folder last (Pieces text) = done text
plan_answer texts bounds folder last (Lines name report next) =
    named_answer texts bounds name report (file_of folder name)
    (λ lines. plan_answer texts bounds folder name (next lines))
plan_answer texts bounds folder last (Document name next) =
    document_answer texts bounds name (file_of folder name)
    (λ bytes. plan_answer texts bounds folder name (next bytes))
