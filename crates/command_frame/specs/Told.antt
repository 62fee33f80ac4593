-- What a fault is told as, and the status of each kind of fault.
use Rattle.std.specs.Prelude.{ℕ, List}
use Rattle.command_frame.specs.declared.fault.FaultStatus.{FaultStatus}
use Rattle.command_frame.specs.declared.fault.FaultStatus.TheVariants.{Malformed, PastLimit}

-- what a message says of a fault, and what kind of fault it is
pub record Told : Type 0 where
  pub text : List ℕ
  pub status : FaultStatus

-- the status of each kind
abbrev pub code_of : FaultStatus → ℕ
code_of Malformed = 1
code_of PastLimit = 6
