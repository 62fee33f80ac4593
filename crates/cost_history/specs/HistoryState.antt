-- What contracts see of a history, and for how many stacks there is room to list their marks; each
-- stack that isn't marked costs what it says; it is roomy while it has no more changes than twice
-- those left and one for each stack.
use Rattle.std.specs.Prelude.{◌≡◌, ℕ, ◌+◌, ◌<◌, ◌≤◌, nat_lt, false, List, [], length, map, filter}
use Rattle.cost_history.specs.declared.change.Change.{Change}
use Rattle.cost_history.specs.Changes.{cost_at}
use Rattle.cost_history.specs.Marks.{MarksState, is_marked, no_marks}

-- the marks, how many stacks there were at the last place that was kept, the changes in their
-- order, how many of these were left when they were last thinned, and that place
pub record HistoryState : Type 0 where
  pub marks : MarksState
  pub stacks : ℕ
  pub changes : List Change
  pub left : ℕ
  pub last : ℕ

-- before any place is kept
abbrev pub no_history : HistoryState
no_history = record { marks = no_marks; stacks = 0; changes = []; left = 0; last = 0 }

-- the history, and for how many stacks there is room to list their marks
pub record RoomyHistory : Type 0 where
  pub history : HistoryState
  pub room : ℕ

-- the changes to these costs at the place, of those of the list that are below the number of stacks
abbrev pub changes_to : ℕ → ℕ → (ℕ → ℕ) → List ℕ → List Change
changes_to stacks place costs list =
    map (λ (stack : ℕ). record { place = place; stack = stack; cost = costs stack })
    (filter (λ stack. nat_lt stack stacks) list)

-- no more changes than twice those that were left the last time, and one more for each stack
abbrev pub IsRoomy : HistoryState → Type 0
IsRoomy state = length state.changes ≤ state.left + state.left + state.stacks

-- each stack that isn't marked costs now what the history says from its last place on
pub record TellsNow (state : HistoryState) (costs : ℕ → ℕ) : Type 0 where
  pub unmarked : (stack place : ℕ) → is_marked state.marks stack ≡ false → state.last ≤ place
      → cost_at state.changes place stack ≡ costs stack

-- the answers of a closure for so many stacks are these costs, and other stacks cost nothing
pub record AreSaid (answers : ℕ → ℕ → Type 0) (stacks : ℕ) (costs : ℕ → ℕ) : Type 0 where
  pub said : (stack says : ℕ) → stack < stacks → answers stack says → says ≡ costs stack
  pub none : (stack : ℕ) → stacks ≤ stack → costs stack ≡ 0

-- a closure may be called on each of so many stacks
abbrev pub AreCallable : (ℕ → Type 0) → ℕ → Type 0
AreCallable may_call stacks = (stack : ℕ) → stack < stacks → may_call stack
