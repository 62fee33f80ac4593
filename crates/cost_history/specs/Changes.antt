-- What a list of changes says that stacks cost. What a stack costs at a place is what the last
-- change up to there says, and 0 where none does; changes are parted where between two of one stack
-- a kept place stands.
use Rattle.std.specs.Prelude.{◌≡◌, ℕ, ◌<◌, ◌≤◌, ◌==◌, ◌&&◌, ◌⊎◌, nat_le, Bool, if◌then◌else◌, List, [], ◌∷◌, AllPairs}
use Rattle.std.specs.Prelude.{Contains, length}
use Rattle.cost_history.specs.declared.change.Change.{Change}

-- whether the change is of the stack, and is made at the place or before
abbrev pub says : Change → ℕ → ℕ → Bool
says change place stack = nat_le change.place place && (change.stack == stack)

-- what the stack costs at the place: what the last change up to it says, and so much where none does
abbrev pub cost_behind : ℕ → List Change → ℕ → ℕ → ℕ
cost_behind before [] place stack = before
cost_behind before (change ∷ changes) place stack = cost_behind
    (if says change place stack then change.cost else before) changes place stack

-- what the stack costs at the place, and 0 where no change says
abbrev pub cost_at : List Change → ℕ → ℕ → ℕ
cost_at changes place stack = cost_behind 0 changes place stack

-- the changes are of so many stacks, and their places ascend between the two
abbrev pub IsBetween : ℕ → ℕ → List Change → ℕ → Type 0
IsBetween stacks low [] last = low ≤ last
IsBetween stacks low (change ∷ changes) last = (change.stack < stacks) × (low ≤ change.place)
    × IsBetween stacks change.place changes last

-- the place is one that is kept, or none of the changes is behind it
abbrev pub IsAsked : List ℕ → ℕ → ℕ → Type 0
IsAsked kept last place = Contains kept place ⊎ (last ≤ place)

-- a kept place sees the one change and not the other
pub record IsParting (kept : List ℕ) (earlier later : Change) : Type 0 where
  pub place : ℕ
  pub is_kept : Contains kept place
  pub sees : earlier.place ≤ place
  pub before : place < later.place

-- between any two changes of one stack a kept place stands
pub record AreParted (kept : List ℕ) (changes : List Change) : Type 0 where
  pub each : AllPairs (λ earlier later. earlier.stack ≡ later.stack → IsParting kept earlier later)
      changes

-- stacks from this number on cost nothing
abbrev pub CostNothingFrom : ℕ → List Change → Type 0
CostNothingFrom stacks changes = (place stack : ℕ) → stacks ≤ stack
    → cost_at changes place stack ≡ 0

-- the changes are of stacks that have cells, and none is behind the last place
abbrev pub AreOfCells : List ℕ → List Change → ℕ → Type 0
AreOfCells cells changes last = IsBetween (length cells) 0 changes last
