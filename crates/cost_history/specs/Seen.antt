-- What is kept of a list of changes while it is read from its end, for private clauses.
use Rattle.std.specs.Prelude.{◌≡◌, ℕ, ◌-◌, ◌^◌, ◌<◌, ◌≤◌, ◌⊎◌, true, All, List, [], ◌∷◌, length, slice_index, ◌+◌}
use Rattle.cost_history.specs.declared.change.Change.{Change}
use Rattle.cost_history.specs.Changes.{says, AreOfCells, AreParted}
use Rattle.cost_history.specs.Steps.{SeesSame}

-- the places ascend
abbrev pub AreAscending : List ℕ → Type 0
AreAscending places = (i j : ℕ) → i ≤ j → j < length places
    → slice_index places i ≤ slice_index places j

-- one of the changes is of the stack, and is made at the place or before
abbrev pub Has : List Change → ℕ → ℕ → Type 0
Has [] place stack = ⊥
Has (change ∷ changes) place stack = (says change place stack ≡ true) ⊎ Has changes place stack

-- beside each stack stands a place at which one of its changes is made, or the greatest number
abbrev pub AreSeen : List ℕ → List Change → Type 0
AreSeen seen changes = (stack : ℕ) → stack < length seen → slice_index seen stack < 2 ^ 64 - 1
    → Has changes (slice_index seen stack) stack

-- and none of its changes is made before
abbrev pub AreFirst : List ℕ → List Change → Type 0
AreFirst seen changes = All (λ change. slice_index seen change.stack ≤ change.place) changes

-- no kept place from a number on is below the place
abbrev pub AreFrom : List ℕ → ℕ → ℕ → Type 0
AreFrom kept next place = next < length kept → place ≤ slice_index kept next

-- the kept place at a number is the first that isn't below the place
pub record IsFirstFrom (kept : List ℕ) (next place : ℕ) : Type 0 where
  pub within : next ≤ length kept
  pub below : 0 < next → slice_index kept (next - 1) < place
  pub ahead : AreFrom kept next place

-- the changes that stay: they are of the same stacks, what is asked sees the same, and a kept place
-- stands between two of one stack
pub record AreSifted (kept : List ℕ) (last : ℕ) (old : List Change) (cells seen : List ℕ)
    (left : List Change) : Type 0 where
  pub between : AreOfCells seen left last
  pub count : length seen ≡ length cells
  pub costs : SeesSame kept last old left
  pub parted : AreParted kept left
