-- Lists that stand under numbers, for private clauses.
use Rattle.std.specs.Prelude.{◌≡◌, ℕ, ◌<◌, List, [], ◌++◌, All, Option, length, map, slice_index, slice_index_or}
use Rattle.std.specs.Option.{option_map}
use Rattle.cost_tree.specs.Following.{following}

-- the lists with these numbers
abbrev pub lists_under : List (List ℕ) → List ℕ → List (List ℕ)
lists_under lists = map (λ number. slice_index_or lists number [])

-- each number is that of a list
abbrev pub AreNumbers : List (List ℕ) → List ℕ → Type 0
AreNumbers lists = All (λ number. number < length lists)

-- the number at a place, if any
abbrev pub numbers_of : List ℕ → Option ℕ → Option ℕ
numbers_of numbers = option_map (slice_index numbers)

-- behind these places come those under a number: in the new places, and in the list that they go on with, if any
abbrev pub GoesOn : List (List ℕ) → ℕ → List ℕ → List ℕ → Option ℕ → Type 0
GoesOn lists number old new next =
    new ++ following lists next ≡ old ++ slice_index_or lists number []
