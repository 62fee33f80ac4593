-- What a run is to write and to answer, for its words, the files of a folder, and the text of the
-- recording. The recorder's answer to words and files: that of the plan of its files, behind which
-- a text is written, or a trace is read; the faults are the same for every text.
use Rattle.std.specs.Prelude.{◌≡◌, ℕ, List, [], ◌++◌, Bool, false, Option, None, Some, length}
use Rattle.std.specs.Option.{option_map, option_to_list}
use Rattle.hp_outside.specs.Folder.{Folder}
use Rattle.command_frame.specs.Answer.{Answer}
use Rattle.command_frame.specs.FirstFault.{Bounds}
use Rattle.command_frame.specs.Plan.{Ends, Plan, one_file}
use Rattle.command_frame.specs.Report.{Writes}
use Rattle.command_frame.specs.Task.{Task as FilesTask, task_answer}
use Rattle.record_scripts.specs.Job.{Job}
use Rattle.heaprec_commands.specs.CheckReport.{check_report}
use Rattle.heaprec_commands.specs.FileLines.{no_job}
use Rattle.heaprec_commands.specs.FilesPlan.{files_named, files_plan, job_in}
use Rattle.heaprec_commands.specs.RecordWords.{Checks, RecordAsked, Records, Task, record_asked, trace_of}
use Rattle.heaprec_commands.specs.Texts.{heaprec_texts}

-- what is done with the job that the files say: a text is written, which says nothing of their
-- faults; or the trace that is checked is read
abbrev pub task_plan : List ℕ → Task → Job → Plan
task_plan text (Records summary) job = Ends (Writes text)
task_plan text (Checks trace) job = one_file trace (check_report job)

-- what is done with the files
abbrev pub record_plan : ℕ → List ℕ → RecordAsked → Plan
record_plan limit text asked = files_plan asked.modules asked.scripts (no_job limit)
    (task_plan text asked.task)

-- the files that are read for it
abbrev pub names_of : RecordAsked → List (List ℕ)
names_of asked = files_named asked.modules asked.scripts ++ option_to_list (trace_of asked.task)

-- what words ask for as the frame runs it: the files, and what is done with them
abbrev pub asked_task : ℕ → List ℕ → RecordAsked → FilesTask
asked_task limit text asked = record { names = names_of asked; plan = record_plan limit text asked }

abbrev pub task_asked : ℕ → List ℕ → Option RecordAsked → Option FilesTask
task_asked limit text asking = option_map (asked_task limit text) asking

-- the answer to what was asked, or to words that aren't taken
abbrev pub asked_answer : Bounds → ℕ → Folder → List ℕ → Option RecordAsked → Answer
asked_answer bounds limit folder text asking =
    task_answer heaprec_texts bounds folder (task_asked limit text asking)

-- the answer to words, over a folder of files, of which none may have more bytes, nor longer lines,
-- than the bounds, and which together may have so many events; this is the text of the recording,
-- where there is one
abbrev pub rec_answer : List (List ℕ) → Bounds → ℕ → Folder → List ℕ → Answer
rec_answer words bounds limit folder text = asked_answer bounds limit folder text
    (record_asked words)

-- the files that words name, where they are taken
abbrev pub names_asked : Option RecordAsked → List (List ℕ)
names_asked None = []
names_asked (Some asked) = names_of asked

-- how many scripts they name
abbrev pub count_asked : Option RecordAsked → ℕ
count_asked None = 0
count_asked (Some asked) = length asked.scripts

-- whether a summary is asked for
abbrev pub has_summary : Task → Bool
has_summary (Records summary) = summary
has_summary (Checks trace) = false

abbrev pub summary_asked : Option RecordAsked → Bool
summary_asked None = false
summary_asked (Some asked) = has_summary asked.task

-- the trace that is to be checked, if one is
abbrev pub trace_asked : Option RecordAsked → Option (List ℕ)
trace_asked None = None
trace_asked (Some asked) = trace_of asked.task

-- what is asked for but for the trace: the modules file and the scripts alone
abbrev pub without_trace : RecordAsked → RecordAsked
without_trace asked = record asked { task = Records false }

abbrev pub unchecked : Option RecordAsked → Option RecordAsked
unchecked asking = option_map without_trace asking

-- these have no fault
abbrev pub HaveNoFault : Bounds → ℕ → Folder → Option RecordAsked → Type 0
HaveNoFault bounds limit folder asking =
    (asked_answer bounds limit folder [] (unchecked asking)).status ≡ 0

-- what the files of a folder say that words name
abbrev pub job_asked : ℕ → Folder → Option RecordAsked → Job
job_asked limit folder None = no_job limit
job_asked limit folder (Some asked) = job_in folder asked.modules asked.scripts limit
