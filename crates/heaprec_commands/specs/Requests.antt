-- What a request asks for.
use Rattle.std.specs.Prelude.{ℕ, ◌≤◌, Bool, List, Option, length, map, string_bytes}
use Rattle.std.specs.Borrow.{Bor}
use Rattle.std.specs.declared.string.String.{String}
use Rattle.std.specs.Option.{option_copied}
use Rattle.command_words.specs.declared.taken.TakenWords.{TakenWords}
use Rattle.command_words.specs.WordsTaken.{files_in, flag_in, rows_in, value_in}
use Rattle.heaprec_commands.specs.declared.request.RecordRequest.{RecordRequest}
use Rattle.heaprec_commands.specs.declared.request.RecordTask.{RecordTask}
use Rattle.heaprec_commands.specs.declared.request.RecordTask.TheVariants.{Check, Record}
use Rattle.heaprec_commands.specs.RecordWords.{Checks, RecordAsked, Records, Task, inputs_in, record_asked, record_by}
use Rattle.heaprec_commands.specs.RecordWords.{task_given}

-- what words ask for that the table takes
abbrev pub taken_asks : TakenWords → Option RecordAsked
taken_asks words = record_by (value_in (rows_in words)) (flag_in (rows_in words))
    (files_in (rows_in words))

-- a task as the definitions have it
abbrev pub task_by : RecordTask → Task
task_by (Record summary) = Records summary
task_by (Check trace) = Checks trace.now

abbrev pub asked_by : RecordRequest → RecordAsked
asked_by request = record {
  modules = option_copied request.modules;
  scripts = map (λ name. name.now) request.scripts.items;
  task = task_by request.task;
}

-- what words ask for, and what a name of a trace and a flag do
abbrev pub asked_in : {Z : Type 0} → List (String Z) → Option RecordAsked
asked_in words = record_asked (map string_bytes words)

abbrev pub task_named : Option (Bor (List ℕ)) → Bool → Option Task
task_named trace summary = task_given (option_copied trace) summary

-- how many of the names are `-`
abbrev pub inputs_named : Option (Bor (List ℕ)) → List (Bor (List ℕ)) → Option (Bor (List ℕ)) → ℕ
inputs_named modules scripts trace = inputs_in (option_copied modules)
    (map (λ name. name.now) scripts) (option_copied trace)

-- it names a script, and 64 at most
abbrev pub NamesSome : RecordRequest → Type 0
NamesSome request = 1 ≤ length request.scripts.items

abbrev pub NamesFew : RecordRequest → Type 0
NamesFew request = length request.scripts.items ≤ 64
