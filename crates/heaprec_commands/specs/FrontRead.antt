-- What reading the first files of a run comes to. Whatever a run from the files that are left comes
-- to, the whole run may come to, and both give one job, by one call for each file; nothing is
-- written while files are read.
use Rattle.std.specs.Prelude.{◌≡◌, ◌≢◌, ℕ, ◌+◌, List, [], ◌++◌, length, Option, Result, Ok, Err}
use Rattle.hp_outside.specs.declared.store.Store as store
use Rattle.hp_outside.specs.declared.sink.Sink as sink
use Rattle.hp_outside.specs.Faults.{Faulted}
use Rattle.hp_outside.specs.Folder.{Folder}
use Rattle.hp_outside.specs.Taken.{WhereTold}
use Rattle.command_frame.specs.declared.context.RunContext.{RunContext}
use Rattle.command_frame.specs.declared.halt.Halt.{Halt}
use Rattle.command_frame.specs.Answer.{Answer}
use Rattle.command_frame.specs.FirstFault.{Bounds, bounds_of}
use Rattle.command_frame.specs.Halts.{halt_answer}
use Rattle.command_frame.specs.Moment.{Moment}
use Rattle.command_frame.specs.Plan.{Plan}
use Rattle.command_frame.specs.Run.{Ran}
use Rattle.command_frame.specs.RunsTo.{Shown, Taken, shown, status_of, taken}
use Rattle.command_frame.specs.Texts.{Texts, texts_of}
use Rattle.record_scripts.specs.Job.{Job}

-- the first files of a run: their names, what is done with them and then with the job that they
-- give, the job that those of a folder give, and how many scripts it has
pub record Front : Type 0 where
  pub names : List (List ℕ)
  pub plan : (Job → Plan) → Plan
  pub gives : Folder → Job
  pub threads : ℕ

-- no files, behind those that have given this job
abbrev pub read_to : Job → Front
read_to job = record {
  names = [];
  plan = λ next. next job;
  gives = λ folder. job;
  threads = length job.scripts;
}

-- whatever a run comes to that begins with the second files, a run that begins with the first ones
-- may come to; both give the same job, and the store was called once for each file that only the
-- first ones have
pub record LeadsTo (texts : Texts) (bounds : Bounds) (files : Option Folder) (front : Front)
    (before : Moment) (left : Front) (now : Moment) : Type 0 where
  pub runs : (last : List ℕ) (names : List (List ℕ)) (next : Job → Plan)
      → (here : List ℕ) × ((later : Moment) (answer : Answer)
      → Ran texts bounds files here (left.names ++ names) (left.plan next) now later answer
      → Ran texts bounds files last (front.names ++ names) (front.plan next) before later answer)
  pub gives : WhereTold files (λ folder. left.gives folder ≡ front.gives folder)
  pub threads : left.threads ≡ front.threads
  pub opens : now.opens + length left.names ≡ before.opens + length front.names

-- the files were read, so that the run goes on with their job; or the run has ended
abbrev pub GoesOn : Texts → Bounds → Option Folder → Front → Moment → Moment → Result Job Halt
    → Type 0
GoesOn texts bounds files front before now (Ok job) = LeadsTo texts bounds files front before
    (read_to job) now
GoesOn texts bounds files front before now (Err halt) =
    (last : List ℕ) (names : List (List ℕ)) (next : Job → Plan)
    → Ran texts bounds files last (front.names ++ names) (front.plan next) before now
    (halt_answer texts halt)

-- the same, with nothing written, and writes failed exactly where the status says so
pub record FrontRead (context : RunContext) (front : Front) (before now : Shown) (old new : Taken)
    (result : Result Job Halt) : Type 0 where
  pub goes_on : GoesOn (texts_of context.texts) (bounds_of context.limits) before.files front
      before.moment now.moment result
  pub silent : new.written ≡ old.written
  pub files : now.files ≡ before.files
  pub unwritten : status_of result ≡ 4 → Faulted old.faults new.faults
  pub sound : status_of result ≢ 4 → new.faults ≡ old.faults

-- the same, of a store and an output before it and after it
abbrev pub ReadsFront : {S O : Type 0} → store.Ghosts S → sink.Ghosts O → RunContext → Front → S → S → O
    → O → Result Job Halt → Type 0
ReadsFront s o context front before now old new result = FrontRead context front (shown s before)
    (shown s now) (taken o old) (taken o new) result
