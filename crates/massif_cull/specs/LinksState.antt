-- What contracts see of links, and what stands at and beside a place of a list.
use Rattle.std.specs.Prelude.{◌≡◌, ℕ, ◌+◌, List, slice_get, Option, Some}

-- the number that is above each place, and the places in their order
pub record LinksState : Type 0 where
  pub max : ℕ
  pub places : List ℕ

-- the fact is true of each index at which the place stands
abbrev pub WhereIs : List ℕ → ℕ → (ℕ → Type 0) → Type 0
WhereIs places place P = (k : ℕ) → slice_get places k ≡ Some place → P k

-- the answer is what stands behind the place
abbrev pub IsNext : List ℕ → ℕ → Option ℕ → Type 0
IsNext places place next = (k : ℕ) → slice_get places k ≡ Some place
    → next ≡ slice_get places (k + 1)

-- the answer is what stands before the place, where it isn't the first one
abbrev pub IsPrevious : List ℕ → ℕ → Option ℕ → Type 0
IsPrevious places place previous = (k : ℕ) → slice_get places (k + 1) ≡ Some place
    → previous ≡ slice_get places k
