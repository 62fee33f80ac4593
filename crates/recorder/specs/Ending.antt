-- The workers from a number on and below an end have ended.
use Rattle.std.specs.Prelude.{◌≡◌, ℕ, ◌+◌, Option, IfSome}
use Rattle.recorder.specs.declared.ended.Ended.{Ended}

-- those from a number on and below an end
pub record HaveEnded (first end : ℕ) (ended : Ended) : Type 0 where
  pub first_is : ended.first ≡ first
  pub end_is : ended.end ≡ end

-- a hold of a worker was its last one, where it says so
abbrev pub TellsLast : ℕ → Option Ended → Type 0
TellsLast worker last = IfSome last (HaveEnded worker (worker + 1))
