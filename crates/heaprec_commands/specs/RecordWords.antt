-- The recorder's words name a modules file or none, a summary, a trace to check or neither, and 1
-- to 64 scripts; of all names at most one is `-`.
use Rattle.std.specs.Prelude.{ℕ, ◌+◌, List, [], ◌∷◌, Bool, true, false, ◌&&◌, codes, length, nat_le, Option, None, Some}
use Rattle.std.specs.Prelude.{if◌then◌else◌}
use Rattle.std.specs.Option.{option_and_then, option_to_list}
use Rattle.std.specs.Str.{bytes_eq}
use Rattle.command_words.specs.TableApp.{Table}
use Rattle.command_words.specs.WordsTaken.{files_in, flag_in, value_in, words_taken}

-- what is done with the scripts: they are recorded, with a summary behind the trace or without one;
-- or a trace is checked against them
pub data Task : Type 0 where
  Records : Bool → Task
  Checks : List ℕ → Task

-- which modules file, if any, which scripts, from thread 0 on, and what is done with them
pub record RecordAsked : Type 0 where
  pub modules : Option (List ℕ)
  pub scripts : List (List ℕ)
  pub task : Task

-- two options, one flag, and files
abbrev pub record_table : Table
record_table = record {
  options = codes "modules" ∷ codes "check" ∷ [];
  flags = codes "summary" ∷ [];
  files = true;
}

-- what the option that names a trace and the flag ask for: a trace that is checked has no summary
abbrev pub task_given : Option (List ℕ) → Bool → Option Task
task_given None summary = Some (Records summary)
task_given (Some trace) false = Some (Checks trace)
task_given (Some trace) true = None

-- the trace that a task reads, where it checks one
abbrev pub trace_of : Task → Option (List ℕ)
trace_of (Records summary) = None
trace_of (Checks trace) = Some trace

-- how many names mean standard input
abbrev pub inputs : List (List ℕ) → ℕ
inputs [] = 0
inputs (name ∷ names) = (if bytes_eq name (codes "-") then 1 else 0) + inputs names

-- the same of all names
abbrev pub inputs_in : Option (List ℕ) → List (List ℕ) → Option (List ℕ) → ℕ
inputs_in modules scripts trace = inputs (option_to_list modules)
    + (inputs scripts + inputs (option_to_list trace))

-- 1 to 64 scripts; standard input can be read only once
abbrev pub are_taken : Option (List ℕ) → List (List ℕ) → Option (List ℕ) → Bool
are_taken modules scripts trace =
    nat_le 1 (length scripts) && nat_le (length scripts) 64
    && nat_le (inputs_in modules scripts trace) 1

-- what the modules file, the scripts and the task ask for
abbrev pub record_of : Option (List ℕ) → List (List ℕ) → Task → Option RecordAsked
record_of modules scripts task =
    if are_taken modules scripts (trace_of task)
    then Some (record { modules = modules; scripts = scripts; task = task }) else None

-- what the values of the options, the flag and the files ask for
abbrev pub record_given : Option (List ℕ) → Option (List ℕ) → Bool → Option (List (List ℕ))
    → Option RecordAsked
record_given modules trace summary None = None
record_given modules trace summary (Some scripts) = option_and_then (record_of modules scripts)
    (task_given trace summary)

-- the same by the names of the options and of the flag
abbrev pub record_by : (List ℕ → Option (List ℕ)) → (List ℕ → Bool) → Option (List (List ℕ))
    → Option RecordAsked
record_by value flag files = record_given (value (codes "modules")) (value (codes "check"))
    (flag (codes "summary")) files

-- what the words ask for
unfoldable pub record_asked : List (List ℕ) → Option RecordAsked
record_asked words = option_and_then
    (λ rows. record_by (value_in rows) (flag_in rows) (files_in rows))
    (words_taken record_table words)
