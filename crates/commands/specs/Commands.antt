-- The list of the commands, and what is read of it: the command that the first word names, what is
-- done for all words, and the usage text.
use Rattle.std.specs.Prelude.{ℕ, List, [], ◌∷◌, ◌++◌, codes, Bool, false, Option, Some, None, if◌then◌else◌, is_some}
use Rattle.std.specs.Option.{option_and_then}
use Rattle.std.specs.Str.{bytes_eq}
use Rattle.command_frame.specs.Plan.{Ends}
use Rattle.command_frame.specs.Report.{Writes}
use Rattle.command_frame.specs.Task.{Task}
use Rattle.commands.specs.Command.{CommandOf, task_by}
use Rattle.commands.specs.ConvertCommand.{convert}
use Rattle.commands.specs.DhatCommand.{dhat}
use Rattle.commands.specs.FlameCommand.{flame}
use Rattle.commands.specs.GenCommand.{gen}
use Rattle.commands.specs.InterpretCommand.{interpret}
use Rattle.commands.specs.MassifCommand.{massif}
use Rattle.commands.specs.PageCommand.{page}
use Rattle.commands.specs.PrintCommand.{print}
use Rattle.commands.specs.SummaryCommand.{summary}
use Rattle.commands.specs.ViewCommand.{view}

-- a name, and what is done for the words behind it, or nothing where they aren't taken
pub record Command : Type 0 where
  pub name : List ℕ
  pub task : List (List ℕ) → Option Task

abbrev pub named : {A : Type 0} → List ℕ → CommandOf A → Command
named name command = record { name = name; task = task_by command }

-- the ten commands, in the order of the usage text
abbrev pub commands : List Command
commands =
    named (codes "summary") summary
    ∷ named (codes "print") print
    ∷ named (codes "flame") flame
    ∷ named (codes "interpret") interpret
    ∷ named (codes "massif") massif
    ∷ named (codes "ms_print") page
    ∷ named (codes "dhat") dhat
    ∷ named (codes "gen") gen
    ∷ named (codes "dhat_view") view
    ∷ named (codes "convert") convert
    ∷ []

-- the names of commands, each behind a blank
abbrev pub names_of : List Command → List ℕ
names_of [] = []
names_of (command ∷ commands) = 32 ∷ command.name ++ names_of commands

-- how the program is called
unfoldable pub usage : List ℕ
usage =
    codes "usage: heapsuite COMMAND [OPTION]... [FILE]\ncommands:"
    ++ (names_of commands ++ codes "\n")

-- the usage text is written; no other word is taken
abbrev pub help_task : List (List ℕ) → Option Task
help_task [] = Some (record { names = []; plan = Ends (Writes usage) })
help_task (word ∷ words) = None

abbrev pub help : Command
help = record { name = codes "--help"; task = help_task }

-- the command of a name among these
abbrev pub command_in : List Command → List ℕ → Option Command
command_in [] name = None
command_in (command ∷ commands) name =
    if bytes_eq name command.name then Some command else command_in commands name

-- what the first word names
unfoldable pub command_named : List ℕ → Option Command
command_named name = command_in (help ∷ commands) name

-- what is done for words, or nothing where they aren't taken
abbrev pub task_of : List (List ℕ) → Option Task
task_of [] = None
task_of (name ∷ words) = option_and_then (λ command. command.task words) (command_named name)

-- whether the first word is one that the program knows
abbrev pub knows_first : List (List ℕ) → Bool
knows_first [] = false
knows_first (name ∷ words) = is_some (command_named name)
