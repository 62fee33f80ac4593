-- Reading the files of a recording writes nothing.
use Rattle.std.proofs.Common.{ℕ, List, [], ◌∷◌, Option, None, Some, refl}
use Rattle.command_frame.specs.Plan.{Plan}
use Rattle.command_frame.specs.Silent.{IsSilent}
use Rattle.record_scripts.specs.Job.{Job}
use Rattle.heaprec_commands.specs.declared.reader.InputKind.TheVariants.{Modules, Script}
use Rattle.heaprec_commands.specs.Answer.{task_plan}
use Rattle.heaprec_commands.specs.FileLines.{begun, with_lines}
use Rattle.heaprec_commands.specs.FilesPlan.{files_plan, scripts_plan}
use Rattle.heaprec_commands.specs.RecordWords.{Checks, Records, Task}

scripts_silent : (names : List (List ℕ)) (job : Job) (next : Job → Plan) → ((read : Job) → IsSilent (next read))
    → IsSilent (scripts_plan names job next)
scripts_silent [] job next silent = silent job
scripts_silent (name ∷ names) job next silent =
    (λ earlier line. refl, λ lines. scripts_silent names (with_lines Script (begun job) lines) next silent)

pub files_silent : (modules : Option (List ℕ)) (names : List (List ℕ)) (job : Job) (next : Job → Plan)
    → ((read : Job) → IsSilent (next read)) → IsSilent (files_plan modules names job next)
files_silent None names job next silent = scripts_silent names job next silent
files_silent (Some modules) names job next silent =
    (λ earlier line. refl, λ lines. scripts_silent names (with_lines Modules job lines) next silent)

-- and so does what is done behind them
pub task_silent : (text : List ℕ) (task : Task) (job : Job) → IsSilent (task_plan text task job)
task_silent text (Records summary) job = tt
task_silent text (Checks trace) job = (λ earlier line. refl, λ lines. tt)
