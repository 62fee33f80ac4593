-- What a store shows of itself at a moment beside its files, and how opening a file changes that.
use Rattle.std.specs.Prelude.{◌≡◌, ◌+◌, ℕ, Bool, List, Option}

-- a moment of a store
pub record Moment : Type 0 where
  pub opens : ℕ
  pub current : Bool
  pub left : Option (List ℕ)
  pub faults : ℕ

-- the file was opened: a call of `open` more, and a file is current after it or not
pub record Opened (before now : Moment) (current : Bool) : Type 0 where
  pub opens : now.opens ≡ before.opens + 1
  pub current_is : now.current ≡ current
