-- Names as values of options. The value of an option means something where it is one of a list of
-- names; an option that isn't given has its default.
use Rattle.std.specs.Prelude.{ℕ, List, [], ◌∷◌, Option, Some, None, if◌then◌else◌, map}
use Rattle.std.specs.Borrow.{Bor}
use Rattle.std.specs.Str.{bytes_eq}

-- names as they stand in the code, each with what it means
abbrev pub names_in : {X : Type 0} → List (Bor (List ℕ) × X) → List (List ℕ × X)
names_in names = map (λ known. (known.0.now, known.1)) names

-- what a name means among these
abbrev pub meaning_in : {X : Type 0} → List (List ℕ × X) → List ℕ → Option X
meaning_in [] name = None
meaning_in (known ∷ others) name =
    if bytes_eq name known.0 then Some known.1 else meaning_in others name

-- what an option means: a default where it isn't given
abbrev pub meaning_or : {X : Type 0} → X → List (List ℕ × X) → Option (List ℕ) → Option X
meaning_or default names None = Some default
meaning_or default names (Some name) = meaning_in names name
