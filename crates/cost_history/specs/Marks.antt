-- A stack is marked where it is listed or all are; the candidates are those that may be. A mark
-- adds its stack alone, and marks all where there is no room to list it.
use Rattle.std.specs.Prelude.{ℕ, Bool, true, false, ◌==◌, ◌||◌, nat_lt, if◌then◌else◌, List, [], ◌∷◌, ◌++◌}
use Rattle.std.specs.List.{range_with_len}

-- the stacks that are listed, in the order of their marks, and whether all stacks are marked
pub record MarksState : Type 0 where
  pub listed : List ℕ
  pub all : Bool

abbrev pub no_marks : MarksState
no_marks = record { listed = []; all = false }

-- whether the stack is one of the list
abbrev pub has : List ℕ → ℕ → Bool
has [] stack = false
has (listed ∷ others) stack = (listed == stack) || has others stack

-- whether the stack is marked
abbrev pub is_marked : MarksState → ℕ → Bool
is_marked marks stack = marks.all || has marks.listed stack

-- of so many stacks, those that may be marked
abbrev pub candidates : MarksState → ℕ → List ℕ
candidates marks stacks = if marks.all then range_with_len 0 stacks else marks.listed

-- the marks, and for how many stacks there is room to list them
pub record RoomyMarks : Type 0 where
  pub marks : MarksState
  pub room : ℕ

-- the marks with that of the stack, and no other
abbrev pub with_mark : MarksState → ℕ → MarksState
with_mark marks stack = if has marks.listed stack then marks
    else record marks { listed = marks.listed ++ stack ∷ [] }

-- where there is no room to list it, all are marked
abbrev pub marked_with : RoomyMarks → ℕ → RoomyMarks
marked_with state stack =
    if nat_lt stack state.room
    then record state { marks = with_mark state.marks stack }
    else record state { marks = record state.marks { all = true } }

-- all stacks are marked
abbrev pub with_all : MarksState → MarksState
with_all marks = record marks { all = true }
