-- The lines of a file say a job behind the job before it; its first line with a fault there is
-- refused.
use Rattle.std.specs.Prelude.{ℕ, List, [], ◌∷◌, ◌++◌, Option, None}
use Rattle.std.specs.Option.{option_map}
use Rattle.command_frame.specs.Report.{Report, Writes}
use Rattle.record_scripts.specs.declared.fault.ScriptFault.{ScriptFault}
use Rattle.record_scripts.specs.Job.{Job}
use Rattle.record_scripts.specs.ScriptFaults.{line_fault, module_fault, with_line, with_module_line}
use Rattle.heaprec_commands.specs.declared.reader.InputKind.{InputKind}
use Rattle.heaprec_commands.specs.declared.reader.InputKind.TheVariants.{Modules, Script}
use Rattle.heaprec_commands.specs.FaultTold.{told}

-- no scripts and no modules, for so many events
abbrev pub no_job : ℕ → Job
no_job limit = record { limit = limit; modules = []; scripts = [] }

-- the job with the script of one thread more, which has no turn yet
abbrev pub begun : Job → Job
begun job = record job { scripts = job.scripts ++ [] ∷ [] }

-- the fault of a line behind a job, and the job with the line where it has none
abbrev pub one_fault : InputKind → Job → List ℕ → Option ScriptFault
one_fault Modules job line = module_fault line
one_fault Script job line = line_fault job line

abbrev pub with_one : InputKind → Job → List ℕ → Job
with_one Modules job line = with_module_line job line
with_one Script job line = with_line job line

-- the job with lines, one after another
abbrev pub with_lines : InputKind → Job → List (List ℕ) → Job
with_lines kind job [] = job
with_lines kind job (line ∷ lines) = with_lines kind (with_one kind job line) lines

-- the lines of a file behind a job: none of them writes anything
abbrev pub file_report : InputKind → Job → Report
file_report kind job = record {
  line_fault = λ earlier line. option_map told (one_fault kind (with_lines kind job earlier) line);
  end_fault = λ lines ended. None;
  gains = λ earlier line. [];
  verdict = λ lines. Writes [];
}
