-- The answer to words over a folder.
use Rattle.std.specs.Prelude.{ℕ, List}
use Rattle.hp_outside.specs.Folder.{Folder}
use Rattle.command_frame.specs.Answer.{Answer}
use Rattle.command_frame.specs.FirstFault.{Bounds}
use Rattle.command_frame.specs.Task.{task_answer}
use Rattle.commands.specs.Commands.{task_of}
use Rattle.commands.specs.Texts.{heapsuite_texts}

-- the answer to words, over a folder of files, of which none may have more bytes, nor longer lines, than the bounds
abbrev pub answer : List (List ℕ) → Bounds → Folder → Answer
answer words bounds folder = task_answer heapsuite_texts bounds folder (task_of words)
