-- What a program's words ask for: files in order, and a plan over them; the answer of that over a
-- folder, and whether it writes nothing while it reads.
use Rattle.std.specs.Prelude.{ℕ, List, [], Option, Some, None}
use Rattle.hp_outside.specs.Folder.{Folder}
use Rattle.command_frame.specs.Answer.{Answer, plan_answer, usage_answer}
use Rattle.command_frame.specs.FirstFault.{Bounds}
use Rattle.command_frame.specs.Plan.{Plan}
use Rattle.command_frame.specs.Silent.{IsSilent}
use Rattle.command_frame.specs.Texts.{Texts}

-- the files that are read, in order, and what is done with them
pub record Task : Type 0 where
  pub names : List (List ℕ)
  pub plan : Plan

-- no file is read for words that aren't taken
abbrev pub task_names : Option Task → List (List ℕ)
task_names None = []
task_names (Some task) = task.names

-- the answer to what is asked for, or to words that aren't taken
abbrev pub task_answer : Texts → Bounds → Folder → Option Task → Answer
task_answer texts bounds folder None = usage_answer texts
task_answer texts bounds folder (Some task) = plan_answer texts bounds folder [] task.plan

-- nothing is written before all files were read
abbrev pub IsSilentTask : Option Task → Type 0
IsSilentTask None = Unit {0}
IsSilentTask (Some task) = IsSilent task.plan
