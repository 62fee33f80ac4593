-- Names that are all different.
use Rattle.std.specs.Prelude.{◌≢◌, ℕ, List, AllPairs}

-- no two names of the list are equal
abbrev pub AreDistinct : List (List ℕ) → Type 0
AreDistinct names = AllPairs (λ earlier later. earlier ≢ later) names
