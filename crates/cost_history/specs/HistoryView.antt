-- How contracts see the fields of a history, and what holds of these, for private clauses.
use Rattle.std.specs.Prelude.{ℕ, ◌^◌, ◌≤◌, List, length}
use Rattle.cost_history.specs.declared.change.Change.{Change}
use Rattle.cost_history.specs.Changes.{IsBetween}
use Rattle.cost_history.specs.Marks.{RoomyMarks}
use Rattle.cost_history.specs.HistoryState.{RoomyHistory}

-- there is a cell for each stack
abbrev pub history_of : RoomyMarks → List Change → List ℕ → ℕ → ℕ → RoomyHistory
history_of marks changes cells left last = record {
  history = record {
    marks = marks.marks;
    stacks = length cells;
    changes = changes;
    left = left;
    last = last;
  };
  room = marks.room;
}

-- the changes are of these stacks and in the order of their places
pub record IsKept (changes : List Change) (cells : List ℕ) (last : ℕ) : Type 0 where
  pub between : IsBetween (length cells) 0 changes last
  pub last_most : last ≤ 2 ^ 62
