-- How contracts see the fields of marks, and what holds of these, for private clauses.
use Rattle.std.specs.Prelude.{◌≡◌, ℕ, ◌^◌, ◌<◌, ◌≤◌, Bool, List, length, slice_index, take}
use Rattle.cost_history.specs.Marks.{MarksState, RoomyMarks}

-- the first so many of the order are listed
abbrev pub listed_of : List ℕ → ℕ → Bool → MarksState
listed_of order count all = record { listed = take count order; all = all }

-- there is room for all of the order
abbrev pub marks_of : List ℕ → ℕ → Bool → RoomyMarks
marks_of order count all = record { marks = listed_of order count all; room = length order }

-- each stack stands at its place in the order
pub record ArePlaced (order places : List ℕ) (count : ℕ) : Type 0 where
  pub few : length order < 2 ^ 32
  pub within : count ≤ length order
  pub as_many : length places ≡ length order
  pub stack_held : (i : ℕ) → i < length order → slice_index order i < length order
  pub place_held : (stack : ℕ) → stack < length order → slice_index places stack < length order
  pub stack_at : (stack : ℕ) → stack < length order
      → slice_index order (slice_index places stack) ≡ stack
  pub place_of : (i : ℕ) → i < length order → slice_index places (slice_index order i) ≡ i
