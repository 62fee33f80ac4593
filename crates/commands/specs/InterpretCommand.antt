-- `interpret`: the interpretation of one raw trace. Its words name the raw trace, and a table of
-- symbols or none; standard input is only one of them.
use Rattle.std.specs.Prelude.{ℕ, List, [], ◌∷◌, codes, Bool, false, ◌&&◌, Option, Some, None, if◌then◌else◌}
use Rattle.std.specs.Option.{option_copied, option_map}
use Rattle.std.specs.Str.{bytes_eq}
use Rattle.clap.specs.Words.{Row}
use Rattle.hp_outside.specs.Folder.{Folder}
use Rattle.command_frame.specs.Task.{Task}
use Rattle.command_words.specs.WordsTaken.{only_file_in, value_in, words_taken}
use Rattle.trace_reports.specs.InterpretKeeps.{KeepsFronts, lines_in, symbols_in}
use Rattle.trace_reports.specs.InterpretReport.{files_with, plan_with}
use Rattle.commands.specs.declared.interpret_command.InterpretRequest.{InterpretRequest}
use Rattle.commands.specs.Command.{CommandOf, by_setting, with_file}

-- which table of symbols, if any, and which raw trace
pub record InterpretAsked : Type 0 where
  pub symbols : Option (List ℕ)
  pub trace : List ℕ

-- standard input is only one file
abbrev pub both_are_input : Option (List ℕ) → List ℕ → Bool
both_are_input None trace = false
both_are_input (Some symbols) trace = bytes_eq symbols (codes "-") && bytes_eq trace (codes "-")

abbrev pub apart : Option (List ℕ) → List ℕ → Option InterpretAsked
apart symbols trace = if both_are_input symbols trace then None
    else Some (record { symbols = symbols; trace = trace })

-- what the rows of taken words ask for
abbrev pub interpret_given : List Row → Option InterpretAsked
interpret_given rows = by_setting (only_file_in rows) (apart (value_in rows (codes "symbols")))

-- the trace is read behind the table of symbols, where one is named
abbrev pub interpret_task : InterpretAsked → Task
interpret_task asked = record {
  names = files_with asked.symbols asked.trace;
  plan = plan_with asked.symbols asked.trace;
}

abbrev pub interpret : CommandOf InterpretRequest
interpret = record {
  table = with_file (codes "symbols" ∷ []);
  given = λ words rows. option_map interpret_task (interpret_given rows);
  task = λ request.
      interpret_task (record { symbols = option_copied request.symbols; trace = request.trace.now });
}

-- the interpretation that a program's words ask for, where they ask for one
abbrev pub interpretation : List (List ℕ) → Option InterpretAsked
interpretation [] = None
interpretation (name ∷ words) =
    if bytes_eq name (codes "interpret") then by_setting (words_taken interpret.table words) interpret_given
    else None

-- an interpretation of the named raw trace keeps its ledger and its stacks, front for front
abbrev pub AskedKeeps : Folder → Option InterpretAsked → List ℕ → Type 0
AskedKeeps folder None output = Unit {0}
AskedKeeps folder (Some asked) output =
    KeepsFronts (symbols_in folder asked.symbols) (lines_in folder asked.trace) output

-- the same of what standard output gets of words that ask for one; of others nothing
unfoldable pub KeepsLedgerOf : Folder → List (List ℕ) → List ℕ → Type 0
KeepsLedgerOf folder words output = AskedKeeps folder (interpretation words) output
