-- What reading a file and running a plan come to, of what a store and an output show before and
-- after: how it ended, what is yet to be delivered, the files as they were, and failed writes
-- exactly where the status says so.
use Rattle.std.specs.Prelude.{◌≡◌, ◌≢◌, ℕ, List, [], ◌∷◌, Option, Result, Ok, Err, Vec, vec_items}
use Rattle.std.specs.Io.KnownBytes.{append_known}
use Rattle.hp_outside.specs.declared.store.Store as store
use Rattle.hp_outside.specs.declared.sink.Sink as sink
use Rattle.hp_outside.specs.Faults.{Faulted}
use Rattle.hp_outside.specs.Folder.{Folder}
use Rattle.command_frame.specs.declared.context.RunContext.{RunContext}
use Rattle.command_frame.specs.declared.halt.Halt.{Halt}
use Rattle.command_frame.specs.declared.pair.PairNames.{PairNames}
use Rattle.command_frame.specs.Answer.{Answer, done}
use Rattle.command_frame.specs.DocumentRead.{DocumentEnd, DocumentRead}
use Rattle.command_frame.specs.FileRead.{FileEnd, FileRead, end_output}
use Rattle.command_frame.specs.FirstFault.{bounds_of}
use Rattle.command_frame.specs.Halts.{halt_answer, status_code}
use Rattle.command_frame.specs.Moment.{Moment}
use Rattle.command_frame.specs.Outcome.{GivesWhole, HaltsAt}
use Rattle.command_frame.specs.Plan.{Pieces, Plan, one_document, one_file, two_files}
use Rattle.command_frame.specs.Report.{Report, Verdict}
use Rattle.command_frame.specs.Run.{RanTo}
use Rattle.command_frame.specs.Texts.{Texts, texts_of}

-- what a store shows
pub record Shown : Type 0 where
  pub files : Option Folder
  pub moment : Moment

abbrev pub shown : {S : Type 0} → store.Ghosts S → S → Shown
shown g s = record {
  files = g.files s;
  moment = record {
    opens = g.opens s;
    current = g.current s;
    left = g.left s;
    faults = g.faults s;
  };
}

-- what an output shows
pub record Taken : Type 0 where
  pub written : Option (List ℕ)
  pub faults : ℕ

abbrev pub taken : {O : Type 0} → sink.Ghosts O → O → Taken
taken g o = record { written = g.written o; faults = g.faults o }

-- the status of a result, and the answer that is yet to be delivered
abbrev pub status_of : {T : Type 0} → Result T Halt → ℕ
status_of (Ok all) = 0
status_of (Err halt) = status_code halt.status

abbrev pub answer_of : {R : Type 0} → (R → List ℕ) → Texts → Result R Halt → Answer
answer_of bytes texts (Ok rest) = done (bytes rest)
answer_of bytes texts (Err halt) = halt_answer texts halt

abbrev pub rest_of : {Z : Type 0} → Texts → Result (Vec ℕ Z) Halt → Answer
rest_of texts result = answer_of vec_items texts result

-- a named file was read by lines: how that ended, and that writes failed exactly where the status says so
pub record ReadsTo (context : RunContext) (name : List ℕ) (report : Report)
    (has_taken : List (List ℕ) → Type 0)
    (before now : Shown) (old new : Taken) (result : Result (Unit {0}) Halt) : Type 0 where
  pub end : FileEnd
  pub read : FileRead (bounds_of context.limits) before.files name report before.moment now.moment end
  pub halts : HaltsAt (texts_of context.texts) name has_taken end result
  pub written : new.written ≡ append_known old.written (end_output report end)
  pub files : now.files ≡ before.files
  pub unwritten : status_of result ≡ 4 → Faulted old.faults new.faults
  pub sound : status_of result ≢ 4 → new.faults ≡ old.faults

-- a named file was read as a whole
pub record WholeReadTo (context : RunContext) (name : List ℕ) (before now : Shown)
    (result : Result (List ℕ) Halt)
    : Type 0 where
  pub end : DocumentEnd
  pub read : DocumentRead (bounds_of context.limits) before.files name before.moment now.moment end
  pub gives : GivesWhole (texts_of context.texts) name end result
  pub files : now.files ≡ before.files
  pub no_write : status_of result ≢ 4

-- a plan was run over files of these names, whatever file was read last before it, and answered the
-- rest of its output, of these bytes, or a halt
pub record RunsReady {R : Type 0} (bytes : R → List ℕ) (context : RunContext) (names : List (List ℕ))
    (plan : Plan) (before now : Shown) (old new : Taken) (result : Result R Halt) : Type 0 where
  pub ran : (last : List ℕ)
      → RanTo (texts_of context.texts) (bounds_of context.limits) before.files last names plan
      before.moment now.moment old.written new.written
      (answer_of bytes (texts_of context.texts) result)
  pub files : now.files ≡ before.files
  pub unwritten : status_of result ≡ 4 → Faulted old.faults new.faults
  pub sound : status_of result ≢ 4 → new.faults ≡ old.faults

-- the same, where the rest is a vector
abbrev pub RunsTo : {Z : Type 0} → RunContext → List (List ℕ) → Plan → Shown → Shown → Taken → Taken
    → Result (Vec ℕ Z) Halt → Type 0
RunsTo context names plan before now old new result =
    RunsReady vec_items context names plan before now old new result

-- `ReadsTo`, `WholeReadTo`, `RunsReady` and `RunsTo`, of a store and an output before the call and after it
abbrev pub Reads : {S O : Type 0} → store.Ghosts S → sink.Ghosts O → RunContext → List ℕ → Report
    → (List (List ℕ) → Type 0) → S → S → O → O → Result (Unit {0}) Halt → Type 0
Reads s o context name report has_taken before now old new result =
    ReadsTo context name report has_taken (shown s before) (shown s now) (taken o old) (taken o new)
    result

abbrev pub ReadsWhole : {S : Type 0} → store.Ghosts S → RunContext → List ℕ → S → S → Result (List ℕ) Halt
    → Type 0
ReadsWhole s context name before now result = WholeReadTo context name (shown s before) (shown s now)
    result

abbrev pub Readies : {S O R : Type 0} → store.Ghosts S → sink.Ghosts O → (R → List ℕ) → RunContext
    → List (List ℕ) → Plan → S → S → O → O → Result R Halt → Type 0
Readies s o bytes context names plan before now old new result =
    RunsReady bytes context names plan (shown s before) (shown s now) (taken o old) (taken o new)
    result

-- a plan was run, and answered the rest of its output, as a vector, or a halt
abbrev pub Runs : {S O Z : Type 0} → store.Ghosts S → sink.Ghosts O → RunContext → List (List ℕ) → Plan
    → S → S → O → O → Result (Vec ℕ Z) Halt → Type 0
Runs s o context names plan before now old new result =
    RunsTo context names plan (shown s before) (shown s now) (taken o old) (taken o new) result

-- a plan of one file by lines was run
abbrev pub ReadiesFile : {S O R : Type 0} → store.Ghosts S → sink.Ghosts O → (R → List ℕ) → RunContext
    → List ℕ → Report → S → S → O → O → Result R Halt → Type 0
ReadiesFile s o bytes context name report before now old new result =
    Readies s o bytes context (name ∷ []) (one_file name report) before now old new result

-- a plan of two files by lines was run
abbrev pub ReadiesPair : {S O R : Type 0} → store.Ghosts S → sink.Ghosts O → (R → List ℕ) → RunContext
    → PairNames → Report → (List (List ℕ) → Report) → S → S → O → O → Result R Halt → Type 0
ReadiesPair s o bytes context names report next before now old new result =
    Readies s o bytes context (names.first.now ∷ names.second.now ∷ [])
    (two_files names.first.now report names.second.now next) before now old new result

-- a plan of one file that is read whole was run beside any output, which isn't touched
abbrev pub RunsWhole : {S Z : Type 0} → store.Ghosts S → RunContext → List ℕ → (List ℕ → Verdict) → S → S
    → Result (Vec ℕ Z) Halt → Type 0
RunsWhole s context name verdict before now result =
    (out : Taken) → RunsTo context (name ∷ []) (one_document name verdict) (shown s before)
    (shown s now) out out result

-- a plan of a text that is written while it is made was run beside any store, which isn't touched
abbrev pub RunsPieces : {O Z : Type 0} → sink.Ghosts O → RunContext → List ℕ → O → O
    → Result (Vec ℕ Z) Halt → Type 0
RunsPieces o context text old new result =
    (store : Shown) → RunsTo context [] (Pieces text) store store (taken o old) (taken o new) result
