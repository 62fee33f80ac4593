-- The lines of a tree of costs: a front has one of its own where its share of a total reaches a
-- threshold, and of the fronts one text longer than a front, those below the threshold stand
-- together in one. A front one text longer has a line of its own where 10,000 times its cost is at
-- least the threshold times the total. Those stand by descending cost, of equal ones by the least
-- stack; the others stand together in one last line with their number and sum. A line says its
-- level and how many lines of the next level belong to it.
use Rattle.std.specs.Prelude.{ℕ, zero, suc, ◌+◌, ◌-◌, ◌*◌, not, nat_lt, Bool, List, [], ◌∷◌, ◌++◌, filter, length}
use Rattle.std.specs.Prelude.{slice_index_or, sum_by}
use Rattle.std.specs.List.{flat_map}
use Rattle.cost_tree.specs.declared.scale.Scale.{Scale}
use Rattle.cost_tree.specs.Costed.{Costed}
use Rattle.cost_tree.specs.Inclusive.{inclusive}
use Rattle.cost_tree.specs.NextFronts.{next_fronts}
use Rattle.cost_tree.specs.Order.{by_cost}

-- what a line says the cost of: a front, or so many fronts that are gathered
pub data Shown : Type 0 where
  a_front : (front : List (List ℕ)) → Shown
  gathered : (places : ℕ) → Shown

-- a line: how many texts its front has, how many lines of the next level belong to it, what is shown, and its cost
pub record FrontLine : Type 0 where
  pub level : ℕ
  pub children : ℕ
  pub cost : ℕ
  pub shown : Shown

-- whether a cost is too small for a line of its own: its share of the total is below the threshold
abbrev pub is_small : Scale → ℕ → Bool
is_small scale cost = nat_lt (10000 * cost) (scale.threshold * scale.total)

-- what the stacks cost that begin with the front
abbrev pub cost_of : List Costed → List (List ℕ) → ℕ
cost_of stacks front = inclusive front stacks

-- the front's last text
abbrev pub last_of : List (List ℕ) → List ℕ
last_of front = slice_index_or front (length front - 1) []

-- the fronts that are one text longer and have lines of their own, in the order of their lines: by
-- descending cost, and of equal costs that of the lower stack first
unfoldable pub kept_fronts : Scale → List Costed → List (List ℕ) → List (List (List ℕ))
kept_fronts scale stacks front = by_cost (cost_of stacks)
    (filter (λ next. not (is_small scale (cost_of stacks next))) (next_fronts front stacks))

-- those that are too small
unfoldable pub small_fronts : Scale → List Costed → List (List ℕ) → List (List (List ℕ))
small_fronts scale stacks front = filter (λ next. is_small scale (cost_of stacks next))
    (next_fronts front stacks)

-- the one line of fronts that are gathered, where there are some: how many they are, and what they cost together
unfoldable pub gathered_lines : List Costed → ℕ → List (List (List ℕ)) → List FrontLine
gathered_lines stacks level [] = []
gathered_lines stacks level (next ∷ more) =
    record {
      level = level;
      children = 0;
      cost = sum_by (cost_of stacks) (next ∷ more);
      shown = gathered (length (next ∷ more));
    } ∷ []

-- the line of a front with so many lines below it
abbrev pub front_line : ℕ → List Costed → List (List ℕ) → FrontLine
front_line children stacks front
    = record {
      level = length front;
      children = children;
      cost = cost_of stacks front;
      shown = a_front front;
    }

-- the line of a front, and those of the fronts that begin with it and have up to so many texts more
unfoldable pub front_lines : ℕ → Scale → List Costed → List (List ℕ) → List FrontLine
front_lines zero scale stacks front = front_line 0 stacks front ∷ []
front_lines (suc more) scale stacks front =
    front_line (length (kept_fronts scale stacks front)
    + length (gathered_lines stacks (length front + 1) (small_fronts scale stacks front))) stacks
    front
    ∷ (flat_map (front_lines more scale stacks) (kept_fronts scale stacks front)
    ++ gathered_lines stacks (length front + 1) (small_fronts scale stacks front))

-- the lines of the stacks, to fronts of at most so many texts
unfoldable pub cost_lines : ℕ → Scale → List Costed → List FrontLine
cost_lines depth scale stacks = front_lines depth scale stacks []
