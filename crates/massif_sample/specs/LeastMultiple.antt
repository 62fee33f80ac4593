-- The least multiple of a number that is no less than another: a size rounded up is that of the
-- alignment.
use Rattle.std.specs.Prelude.{◌≡◌, ℕ, ◌*◌, ◌≤◌}

pub record IsLeastMultiple (alignment size multiple : ℕ) : Type 0 where
  pub times : ℕ
  pub is : multiple ≡ times * alignment
  pub above : size ≤ multiple
  pub least : (other : ℕ) → size ≤ other * alignment → multiple ≤ other * alignment
