-- How the names are kept: as vectors of bytes, for private clauses.
use Rattle.std.specs.Prelude.{ℕ, ◌^◌, ◌<◌, List, length, map}
use Rattle.std.specs.Global.{Vec}
use Rattle.intern_tables.specs.Distinct.{AreDistinct}

-- the names that the vectors hold
abbrev pub names_of : List (Vec ℕ) → List (List ℕ)
names_of keys = map (λ key. key.items) keys

-- the names are all different, and their numbers fit
pub record AreNames (keys : List (Vec ℕ)) : Type 0 where
  pub distinct : AreDistinct (names_of keys)
  pub few : length keys < 2 ^ 63
