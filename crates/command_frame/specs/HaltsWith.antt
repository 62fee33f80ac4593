-- Which answer the end of a run is, where memory may have been wanting for its message.
use Rattle.std.specs.Prelude.{◌≡◌, ◌≢◌, ℕ, List, Err, Vec}
use Rattle.hp_outside.specs.declared.store.OpenFault.{OpenFault}
use Rattle.hp_outside.specs.declared.whole.WholeFault.{WholeFault}
use Rattle.command_frame.specs.declared.texts.ProgramTexts.{ProgramTexts}
use Rattle.command_frame.specs.declared.halt.Halt.{Halt}
use Rattle.command_frame.specs.declared.lines.LinesStop.{LinesStop}
use Rattle.command_frame.specs.declared.lines.LinesStop.TheVariants.{WriteFailed}
use Rattle.command_frame.specs.Answer.{Answer, file_answer, line_answer, memory_answer, refused}
use Rattle.command_frame.specs.DocumentRead.{document_end_answer}
use Rattle.command_frame.specs.FileRead.{end_answer}
use Rattle.command_frame.specs.Halts.{halt_answer, status_code}
use Rattle.command_frame.specs.LinesRun.{end_of}
use Rattle.command_frame.specs.Outcome.{end_of_open, end_of_whole}
use Rattle.command_frame.specs.Texts.{Texts, at_file, at_line, texts_of}
use Rattle.command_frame.specs.Told.{Told}

-- it is this answer, or that memory was wanting; no write failed
pub record HaltsWith (texts : Texts) (answered : Answer) (halt : Halt) : Type 0 where
  pub answer : status_code halt.status ≢ 5 → halt_answer texts halt ≡ answered
  pub memory : status_code halt.status ≡ 5 → halt_answer texts halt ≡ memory_answer texts
  pub write : status_code halt.status ≢ 4

-- it is the answer to what stopped the reading of a named file, whatever lines were taken before
pub record StopsWith {F : Type 0} (told : F → Told) (texts : Texts) (name : List ℕ)
    (stop : LinesStop F) (halt : Halt) : Type 0 where
  pub answer : status_code halt.status ≢ 5 → (taken : List (List ℕ)) (count : ℕ)
      → halt_answer texts halt ≡ end_answer texts name (end_of told (Err stop) taken count)
  pub memory : status_code halt.status ≡ 5 → halt_answer texts halt ≡ memory_answer texts
  pub unwritten : status_code halt.status ≡ 4 → stop ≡ WriteFailed
  pub write : stop ≡ WriteFailed → status_code halt.status ≡ 4

-- the same of the answers to a file that isn't opened or not read, as this text says; to a fault of
-- a file, and of a line
abbrev pub HaltsUnreadable : ProgramTexts → List ℕ → List ℕ → Halt → Type 0
HaltsUnreadable texts file text halt =
    HaltsWith (texts_of texts) (refused (at_file (texts_of texts) file text) 3) halt

abbrev pub HaltsAtFile : ProgramTexts → List ℕ → Told → Halt → Type 0
HaltsAtFile texts file told halt =
    HaltsWith (texts_of texts) (file_answer (texts_of texts) file told) halt

abbrev pub HaltsAtLine : ProgramTexts → List ℕ → ℕ → Told → Halt → Type 0
HaltsAtLine texts file number told halt =
    HaltsWith (texts_of texts) (line_answer (texts_of texts) file number told) halt

-- the same of the answers to a file that wasn't opened, and to one whose bytes weren't given
abbrev pub HaltsUnopened : ProgramTexts → List ℕ → OpenFault → Halt → Type 0
HaltsUnopened texts file fault halt =
    HaltsWith (texts_of texts) (end_answer (texts_of texts) file (end_of_open fault)) halt

abbrev pub HaltsUnread : ProgramTexts → List ℕ → WholeFault → Halt → Type 0
HaltsUnread texts file fault halt =
    HaltsWith (texts_of texts) (document_end_answer (texts_of texts) file (end_of_whole fault)) halt

-- a message tells this of a file, and of a line of it
abbrev pub SaysOfFile : {Z : Type 0} → ProgramTexts → List ℕ → List ℕ → Vec ℕ Z → Type 0
SaysOfFile texts file text message = message.items ≡ at_file (texts_of texts) file text

abbrev pub SaysOfLine : {Z : Type 0} → ProgramTexts → List ℕ → ℕ → Told → Vec ℕ Z → Type 0
SaysOfLine texts file number told message =
    message.items ≡ at_line (texts_of texts) file number told.text
