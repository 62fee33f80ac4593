-- A check is new where no line was taken, and the lines of its scripts' recordings spell their
-- orders.
use Rattle.std.specs.Prelude.{[]}
use Rattle.order_check.specs.CheckState.{CheckState, HasTaken}
use Rattle.order_check.specs.Spelling.{IsSpelling}

-- no line was taken, and the lines of the job's recordings spell their orders
pub record IsNewCheck (check : CheckState) : Type 0 where
  pub taken : HasTaken check []
  pub spelling : IsSpelling check.job
