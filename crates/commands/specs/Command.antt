-- A command by its definitions: the words that it takes behind its name, what is done for them, and
-- what is done for a request.
use Rattle.std.specs.Prelude.{◌≡◌, ℕ, List, [], ◌∷◌, Option, Some, None, Result, Err, String, IfOk, true, map, string_bytes}
use Rattle.std.specs.Borrow.{Bor}
use Rattle.std.specs.Option.{option_and_then, option_map}
use Rattle.clap.specs.Words.{Row}
use Rattle.hp_outside.specs.declared.store.Store as store
use Rattle.hp_outside.specs.declared.sink.Sink as sink
use Rattle.command_frame.specs.declared.context.RunContext.{RunContext}
use Rattle.command_frame.specs.declared.halt.Halt.{Halt}
use Rattle.command_frame.specs.Plan.{Plan}
use Rattle.command_frame.specs.RunsTo.{Readies}
use Rattle.command_frame.specs.Task.{Task}
use Rattle.command_words.specs.declared.taken.TakenWords.{TakenWords}
use Rattle.command_words.specs.declared.taken.WordsFault.{WordsFault}
use Rattle.command_words.specs.declared.taken.WordsFault.TheVariants.{NotTaken}
use Rattle.command_words.specs.TableApp.{Table}
use Rattle.command_words.specs.WordsTaken.{only_file_in, rows_in, words_taken}

-- what a command is, over the requests that are made of it
pub record CommandOf (Request : Type 0) : Type 0 where
  -- the words that are taken
  pub table : Table
  -- what is done for taken words by what they give, or nothing where a value is out of its range
  pub given : List (List ℕ) → List Row → Option Task
  -- what is done for a request: the files that are read for it, in order, and what is made of them
  pub task : Request → Task

-- what follows from a setting, where its value is in its range
abbrev pub by_setting : {X Y : Type 0} → Option X → (X → Option Y) → Option Y
by_setting setting follows = option_and_then follows setting

-- options, and one file
abbrev pub with_file : List (List ℕ) → Table
with_file options = record { options = options; flags = []; files = true }

-- the same of options as they stand in the code
abbrev pub with_options : List (Bor (List ℕ)) → Table
with_options options = with_file (map (λ option. option.now) options)

-- one file is read
abbrev pub over_file : (List ℕ → Plan) → List ℕ → Task
over_file plan name = record { names = name ∷ []; plan = plan name }

-- a command that takes one file, and no option
abbrev pub plain : {R : Type 0} → (R → List ℕ) → (List ℕ → Plan) → CommandOf R
plain name plan = record {
  table = with_file [];
  given = λ words rows. option_map (over_file plan) (only_file_in rows);
  task = λ request. over_file plan (name request);
}

-- what is done for words, or nothing where they aren't taken
abbrev pub task_by : {R : Type 0} → CommandOf R → List (List ℕ) → Option Task
task_by command words = by_setting (words_taken command.table words) (command.given words)

-- what is done for taken words by what they gave
abbrev pub given_by : {R Z : Type 0} → CommandOf R → List (String Z) → TakenWords → Option Task
given_by command words taken = command.given (map string_bytes words) (rows_in taken)

-- the words behind a command were read: for the request is done what is done for them, and none is made
-- since they aren't taken only where that is so
pub record Reads {R : Type 0} (command : CommandOf R) (words : List (List ℕ)) (result : Result R WordsFault)
    : Type 0 where
  pub taken : IfOk result (λ request. task_by command words ≡ Some (command.task request))
  pub refused : result ≡ Err NotTaken → task_by command words ≡ None

-- a task was run, and gave a text of these bytes that is ready to be written
abbrev pub RunsTask : {S O R : Type 0} → store.Ghosts S → sink.Ghosts O → (R → List ℕ) → RunContext
    → Task → S → S → O → O → Result R Halt → Type 0
RunsTask s o bytes context task before now old new result =
    Readies s o bytes context task.names task.plan before now old new result
