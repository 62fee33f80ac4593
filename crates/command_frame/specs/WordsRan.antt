-- What a run of a program's words may come to, whatever the store tells and does: the usage text
-- where they aren't taken, or want of memory for them, or a run of the plan.
use Rattle.std.specs.Prelude.{◌≡◌, ◌≢◌, ◌⊎◌, ℕ, List, [], Option, Some, None}
use Rattle.std.specs.Io.KnownBytes.{append_known}
use Rattle.hp_outside.specs.Faults.{Faulted}
use Rattle.hp_outside.specs.Folder.{Folder}
use Rattle.command_frame.specs.Answer.{Answer, after, memory_answer, usage_answer}
use Rattle.command_frame.specs.FirstFault.{Bounds}
use Rattle.command_frame.specs.Moment.{Moment}
use Rattle.command_frame.specs.Run.{Ran}
use Rattle.command_frame.specs.RunsTo.{Shown, Taken}
use Rattle.command_frame.specs.Task.{Task}
use Rattle.command_frame.specs.Texts.{Texts}

-- a run of what was asked for, or of words that aren't taken
abbrev pub TaskRan : Texts → Bounds → Option Folder → Option Task → Moment → Moment → Answer
    → Type 0
TaskRan texts bounds files None before now given = (now ≡ before) × (given ≡ usage_answer texts)
TaskRan texts bounds files (Some task) before now given =
    Ran texts bounds files [] task.names task.plan before now given

-- the same, or memory was wanting for reading the words
abbrev pub WordsRan : Texts → Bounds → Option Folder → Option Task → Moment → Moment → Answer
    → Type 0
WordsRan texts bounds files task before now given =
    ((now ≡ before) × (given ≡ memory_answer texts))
    ⊎ TaskRan texts bounds files task before now given

-- the same, of what the store and the output show: some bytes were written early, and an answer is yet to be delivered
-- behind them
pub record WordsRunTo (texts : Texts) (bounds : Bounds) (task : Option Task) (before now : Shown)
    (old new : Taken)
    (answer : Answer) : Type 0 where
  pub early : List ℕ
  pub written : new.written ≡ append_known old.written early
  pub ran : WordsRan texts bounds before.files task before.moment now.moment (after early answer)
  pub files : now.files ≡ before.files
  pub unwritten : answer.status ≡ 4 → Faulted old.faults new.faults
  pub sound : answer.status ≢ 4 → new.faults ≡ old.faults
