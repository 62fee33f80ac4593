-- After an append that may have failed halfway the new list begins with the old one.
use Rattle.std.specs.Prelude.{◌≡◌, ℕ, List, length, take}

-- the new list begins with the old one
pub record Extends (old new : List ℕ) : Type 0 where
  pub kept : take (length old) new ≡ old
