-- What a history says after a call: a mark concerns one stack alone; a place that is kept leaves
-- what was said of the places before it, and from it on each stack costs what the closure says;
-- thinning leaves what is said of the places that are asked.
use Rattle.std.specs.Prelude.{◌≡◌, ◌≢◌, ℕ, ◌+◌, ◌<◌, ◌≤◌, List, ◌++◌, length}
use Rattle.cost_history.specs.declared.change.Change.{Change}
use Rattle.cost_history.specs.Changes.{IsAsked, IsBetween, cost_at}
use Rattle.cost_history.specs.HistoryState.{AreSaid, HistoryState, RoomyHistory, TellsNow, changes_to}
use Rattle.cost_history.specs.Marks.{MarksState, candidates, is_marked}

-- the marks of all stacks but this one are the same
abbrev pub KeepsOthers : MarksState → MarksState → ℕ → Type 0
KeepsOthers old new stack = (other : ℕ) → other ≢ stack → is_marked new other ≡ is_marked old other

-- where this stack alone costs something else now, the history still tells what is now
abbrev pub TellsChange : HistoryState → HistoryState → ℕ → Type 0
TellsChange old new stack = (before after : ℕ → ℕ) → TellsNow old before
    → ((other : ℕ) → other ≢ stack → after other ≡ before other) → TellsNow new after

-- whatever costs the closure says, the places before this one see the same
abbrev pub KeepsBefore : (ℕ → ℕ → Type 0) → ℕ → ℕ → HistoryState → HistoryState → Type 0
KeepsBefore answers stacks place old new = (costs : ℕ → ℕ) → AreSaid answers stacks costs
    → (seer stack : ℕ) → seer < place
    → cost_at new.changes seer stack ≡ cost_at old.changes seer stack

-- and it and those behind see what the closure says, where the old history told of the others
abbrev pub TellsFrom : (ℕ → ℕ → Type 0) → ℕ → ℕ → HistoryState → HistoryState → Type 0
TellsFrom answers stacks place old new = (costs : ℕ → ℕ) → AreSaid answers stacks costs
    → old.stacks ≤ stacks → TellsNow old costs
    → (seer stack : ℕ) → place ≤ seer → cost_at new.changes seer stack ≡ costs stack

-- at most one change more for each stack that may be marked
abbrev pub GainsMarked : ℕ → MarksState → List Change → List Change → Type 0
GainsMarked stacks marks old new = length new ≤ length old + length (candidates marks stacks)

-- the same of the changes of a history
abbrev pub GainsOfMarked : ℕ → HistoryState → HistoryState → Type 0
GainsOfMarked stacks old new = GainsMarked stacks old.marks old.changes new.changes

-- changes to what the closure says, of the stacks that may be marked
abbrev pub GainsSaid : (ℕ → ℕ → Type 0) → ℕ → ℕ → MarksState → List Change → List Change → Type 0
GainsSaid answers stacks place marks old new = (costs : ℕ → ℕ)
    → ((stack says : ℕ) → stack < stacks → answers stack says → says ≡ costs stack)
    → new ≡ old ++ changes_to stacks place costs (candidates marks stacks)

-- changes that were of fewer stacks and earlier places are of these stacks and no later place
abbrev pub StayBetween : ℕ → ℕ → List Change → List Change → Type 0
StayBetween stacks place old new = (all last : ℕ) → stacks ≤ all → last ≤ place
    → IsBetween all 0 old last → IsBetween all 0 new place

-- each place that is asked sees the same
abbrev pub SeesSame : List ℕ → ℕ → List Change → List Change → Type 0
SeesSame kept last old new = (place : ℕ) → IsAsked kept last place
    → (stack : ℕ) → cost_at new place stack ≡ cost_at old place stack

-- the history with so many stacks
abbrev pub with_stacks : RoomyHistory → ℕ → RoomyHistory
with_stacks old count = record old { history = record old.history { stacks = count } }

-- and with these changes, all of them left
abbrev pub with_left : RoomyHistory → List Change → RoomyHistory
with_left old list = record old
    { history = record old.history { changes = list; left = length list } }

-- the history with these marks
abbrev pub with_marks : RoomyHistory → MarksState → RoomyHistory
with_marks old marks = record old { history = record old.history { marks = marks } }

-- each place that is asked of a history sees the same of another
abbrev pub SeesSameOf : List ℕ → HistoryState → HistoryState → Type 0
SeesSameOf kept old new = SeesSame kept old.last old.changes new.changes
