-- Reading the files of a recording, one after another, and the job that they say. The modules file
-- comes first, and then the scripts, each of them the next thread's; then what is done with the job
-- goes on. The job that files of a folder say.
use Rattle.std.specs.Prelude.{ℕ, ◌+◌, List, [], ◌∷◌, ◌++◌, length, Option, Some, None, unwrap_or, map}
use Rattle.hp_outside.specs.Folder.{Folder, file_of}
use Rattle.hp_outside.specs.Lines.{lines_of}
use Rattle.std.specs.Option.{option_copied}
use Rattle.command_frame.specs.declared.context.RunContext.{RunContext}
use Rattle.command_frame.specs.Plan.{Lines, Plan}
use Rattle.heaprec_commands.specs.declared.files.ScriptFiles.{ScriptFiles}
use Rattle.record_scripts.specs.Job.{Job}
use Rattle.heaprec_commands.specs.declared.reader.InputKind.{InputKind}
use Rattle.heaprec_commands.specs.declared.reader.InputKind.TheVariants.{Modules, Script}
use Rattle.heaprec_commands.specs.FileLines.{begun, file_report, no_job, with_lines}
use Rattle.heaprec_commands.specs.FrontRead.{Front}

-- a file behind a job, and then what is done with the job that it gives
abbrev pub file_plan : InputKind → List ℕ → Job → (Job → Plan) → Plan
file_plan kind name job next = Lines name (file_report kind job)
    (λ lines. next (with_lines kind job lines))

-- the scripts in their order, each of them the next thread's
abbrev pub scripts_plan : List (List ℕ) → Job → (Job → Plan) → Plan
scripts_plan [] job next = next job
scripts_plan (name ∷ names) job next = file_plan Script name (begun job)
    (λ read. scripts_plan names read next)

-- the modules file, if there is one
abbrev pub modules_plan : Option (List ℕ) → Job → (Job → Plan) → Plan
modules_plan None job next = next job
modules_plan (Some modules) job next = file_plan Modules modules job next

-- the modules file, behind it the scripts, and then what is done with the whole job
abbrev pub files_plan : Option (List ℕ) → List (List ℕ) → Job → (Job → Plan) → Plan
files_plan modules names job next = modules_plan modules job (λ read. scripts_plan names read next)

-- the files that are read for it
abbrev pub modules_named : Option (List ℕ) → List (List ℕ)
modules_named None = []
modules_named (Some modules) = modules ∷ []

abbrev pub files_named : Option (List ℕ) → List (List ℕ) → List (List ℕ)
files_named modules names = modules_named modules ++ names

-- the lines of a named file; none where the folder lacks it
abbrev pub lines_in : Folder → List ℕ → List (List ℕ)
lines_in folder name = lines_of (unwrap_or (file_of folder name) [])

-- the job with these scripts of a folder, none of which is absent or has a fault
abbrev pub scripts_in : Folder → List (List ℕ) → Job → Job
scripts_in folder [] job = job
scripts_in folder (name ∷ names) job = scripts_in folder names
    (with_lines Script (begun job) (lines_in folder name))

-- the job with the modules that a file of a folder says
abbrev pub modules_in : Folder → Option (List ℕ) → Job → Job
modules_in folder None job = job
modules_in folder (Some modules) job = with_lines Modules job (lines_in folder modules)

-- the job that files of a folder say
abbrev pub job_in : Folder → Option (List ℕ) → List (List ℕ) → ℕ → Job
job_in folder modules names limit = scripts_in folder names
    (modules_in folder modules (no_job limit))

-- the first files of a run: one, the scripts, the modules file, and the modules file with the scripts behind it
abbrev pub file_front : InputKind → List ℕ → Job → Front
file_front kind name job = record {
  names = name ∷ [];
  plan = file_plan kind name job;
  gives = λ folder. with_lines kind job (lines_in folder name);
  threads = length job.scripts;
}

abbrev pub scripts_front : List (List ℕ) → Job → Front
scripts_front names job = record {
  names = names;
  plan = scripts_plan names job;
  gives = λ folder. scripts_in folder names job;
  threads = length job.scripts + length names;
}

abbrev pub modules_front : Option (List ℕ) → Job → Front
modules_front modules job = record {
  names = modules_named modules;
  plan = modules_plan modules job;
  gives = λ folder. modules_in folder modules job;
  threads = length job.scripts;
}

abbrev pub files_front : Option (List ℕ) → List (List ℕ) → Job → Front
files_front modules names job = record {
  names = files_named modules names;
  plan = files_plan modules names job;
  gives = λ folder. scripts_in folder names (modules_in folder modules job);
  threads = length job.scripts + length names;
}

-- the files of a run, of whose scripts all may have so many events as its limits say
abbrev pub front_of : ScriptFiles → RunContext → Front
front_of files context = files_front (option_copied files.modules)
    (map (λ name. name.now) files.scripts.now) (no_job context.limits.order)
