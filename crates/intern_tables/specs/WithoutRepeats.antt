-- The first appearances in a list.
use Rattle.std.specs.Prelude.{Bool, not, List, [], ◌∷◌, filter}

-- the list with later repeats left out, so that of equal elements the first alone stays
abbrev pub without_repeats : {X : Type 0} → (X → X → Bool) → List X → List X
without_repeats same [] = []
without_repeats same (x ∷ xs) = x ∷ filter (λ y. not (same x y)) (without_repeats same xs)
