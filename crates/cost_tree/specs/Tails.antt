-- The lines of a list behind a front from which it goes on alone. The tail of a list that is cut at
-- a line's front: a line for each further text that fronts may have, with the cost of that line,
-- and one line below each but the last.
use Rattle.std.specs.Prelude.{ℕ, ◌+◌, ◌-◌, ◌==◌, ◌&&◌, nat_lt, false, Bool, if◌then◌else◌, List, [], ◌∷◌, length, map}
use Rattle.std.specs.Prelude.{Option, None, Some, slice_get, slice_index_or, take}
use Rattle.std.specs.List.{range_with_len}
use Rattle.std.specs.Option.{option_map_or}
use Rattle.cost_tree.specs.Costed.{Costed}
use Rattle.cost_tree.specs.CostLines.{FrontLine, Shown, a_front, gathered}
use Rattle.cost_tree.specs.Inclusive.{least}

-- the line of the first `count` of some texts, of which each front has one line
abbrev pub tail_line : List (List ℕ) → ℕ → ℕ → FrontLine
tail_line texts cost count = record {
  level = count;
  children = if nat_lt count (length texts) then 1 else 0;
  cost = cost;
  shown = a_front (take count texts);
}

-- those of more than `count`
abbrev pub tail_lines : List (List ℕ) → ℕ → ℕ → List FrontLine
tail_lines texts cost count = map (tail_line texts cost)
    (range_with_len (count + 1) (length texts - count))

-- the first elements of list n, as many as fronts may have
abbrev pub shown_list : {X : Type 0} → ℕ → List (List X) → ℕ → List X
shown_list depth lists n = take depth (slice_index_or lists n [])

-- whether list n is cut behind its first `count` elements, and more of them are shown
abbrev pub goes_on : {X : Type 0} → ℕ → List (List X) → List ℕ → ℕ → ℕ → Bool
goes_on depth lists counts n count = nat_lt count (length (shown_list depth lists n))
    && option_map_or (λ left. left == count) (slice_get counts n) false

-- the list that goes on from so many elements, where this one is the first that begins with them
abbrev pub going_on : {X : Type 0} → ℕ → List (List X) → List ℕ → Option ℕ → ℕ → Option ℕ
going_on depth lists counts None count = None
going_on depth lists counts (Some n) count =
    if goes_on depth lists counts n count then Some n else None

-- the line, and those behind it of the list that goes on from there
abbrev pub with_tail : ℕ → List (List (List ℕ)) → Option ℕ → FrontLine → List FrontLine
with_tail depth lists None line = line ∷ []
with_tail depth lists (Some n) line = (record line { children = 1 })
    ∷ tail_lines (shown_list depth lists n) line.cost line.level

-- the same, where this list is the first that begins with the line's front
abbrev pub tailed : ℕ → List (List (List ℕ)) → List ℕ → Option ℕ → FrontLine → List FrontLine
tailed depth lists counts first line =
    with_tail depth lists (going_on depth lists counts first line.level) line

-- the first stack that costs something and begins with what is shown, where that is a front
abbrev pub first_shown : List Costed → Shown → Option ℕ
first_shown stacks (a_front front) = Some (least front stacks)
first_shown stacks (gathered places) = None
