-- What is taken at the front of the bytes of a file. The first of the bytes at hand is a whole
-- line, which was taken without a fault.
use Rattle.std.specs.Prelude.{◌≡◌, ℕ, ◌+◌, List, ◌∷◌, ◌++◌, length, None}
use Rattle.hp_outside.specs.WholeLines.{IsLineText}
use Rattle.command_frame.specs.Batch.{IsShortLine}
use Rattle.record_scripts.specs.Job.{Job}
use Rattle.heaprec_commands.specs.declared.reader.InputKind.{InputKind}
use Rattle.heaprec_commands.specs.FileLines.{one_fault, with_one}

-- the first line of the bytes has so many bytes with its line feed, and was taken without a fault
pub record TakesFront (kind : InputKind) (old new : Job) (ready : List ℕ) (bytes : ℕ) : Type 0 where
  pub line : List ℕ
  pub one_line : IsLineText line
  pub short : IsShortLine line
  pub rest : List ℕ
  pub split : ready ≡ line ++ (10 ∷ rest)
  pub size : bytes ≡ length line + 1
  pub no_fault : one_fault kind old line ≡ None
  pub new_is : new ≡ with_one kind old line
