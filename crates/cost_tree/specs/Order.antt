-- The order in which things stand that cost something.
use Rattle.std.specs.Prelude.{ℕ, List, [], ◌∷◌, nat_lt, if◌then◌else◌}

-- before the first that costs no more
abbrev pub before_cheaper : {X : Type 0} → (X → ℕ) → X → List X → List X
before_cheaper cost x [] = x ∷ []
before_cheaper cost x (y ∷ ys) = if nat_lt (cost x) (cost y) then y ∷ before_cheaper cost x ys
    else x ∷ y ∷ ys

-- by descending cost; of equal ones, the one that stood first comes first
abbrev pub by_cost : {X : Type 0} → (X → ℕ) → List X → List X
by_cost cost [] = []
by_cost cost (x ∷ xs) = before_cheaper cost x (by_cost cost xs)
