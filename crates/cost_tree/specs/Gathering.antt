-- What is gathered beside a tree. Stacks that begin with a text that is too small as a whole cost
-- nothing in the tree, and what they cost and how many such texts there are is kept beside it: with
-- that the tree has the lines of all stacks.
use Rattle.std.specs.Prelude.{◌≡◌, ℕ, ◌+◌, ◌^◌, ◌<◌, ◌≤◌, nat_lt, if◌then◌else◌, List, [], ◌∷◌, length, map, sum, sum_by}
use Rattle.cost_tree.specs.declared.children.Gathered.{Gathered}
use Rattle.cost_tree.specs.declared.line.CostLine.{CostLine}
use Rattle.cost_tree.specs.declared.room.TreeRoom.{TreeRoom}
use Rattle.cost_tree.specs.declared.scale.Scale.{Scale}
use Rattle.cost_tree.specs.Costed.{Costed, costed}
use Rattle.cost_tree.specs.CostLines.{FrontLine, gathered, cost_lines, cost_of}
use Rattle.cost_tree.specs.CutState.{CutState}
use Rattle.cost_tree.specs.SmallTexts.{with_gathered}
use Rattle.cost_tree.specs.TreeLines.{HasLines, line_at}
use Rattle.cost_tree.specs.TreeState.{TreeState}

-- the line of the texts that are gathered, where there are some
abbrev pub lines_of : Gathered → List FrontLine
lines_of few =
    if nat_lt 0 few.places
    then record { level = 1; children = 0; cost = few.cost; shown = gathered few.places } ∷ []
    else []

-- with other costs, and what is gathered, lists have the lines that they have with these costs, to
-- fronts of at most so many texts
pub record GathersSmall (depth : ℕ) (scale : Scale) (lists : List (List (List ℕ))) (old new : List ℕ)
    (few : Gathered) : Type 0 where
  pub as_many : length new ≡ length old
  pub parts : few.cost + sum new ≡ sum old
  pub lines : cost_lines depth scale (costed lists old)
      ≡ with_gathered (cost_lines depth scale (costed lists new)) (sum old) (lines_of few)

-- with those in a room, whichever costs a costing has
abbrev pub Gathers : (List ℕ → Type 0) → ℕ → Scale → CutState → TreeRoom → Gathered → Type 0
Gathers are_costs depth scale lists room few = (costs : List ℕ) → are_costs costs
    → GathersSmall depth scale lists.whole costs room.costs.items few

-- a tree, and what is gathered beside it, have the lines of stacks, to fronts of at most so many texts
pub record HaveLines (scale : Scale) (tree : TreeState) (few : Gathered) (stacks : List Costed)
    (depth : ℕ) : Type 0 where
  pub others : List Costed
  pub has : HasLines tree others depth
  pub count : length stacks < 2 ^ 32
  pub within : sum_by (λ (stack : Costed). stack.cost) stacks ≤ 2 ^ 62
  pub parts : few.cost + cost_of others [] ≡ cost_of stacks []
  pub lines : cost_lines depth scale stacks
      ≡ with_gathered (cost_lines depth scale others) (cost_of stacks []) (lines_of few)

-- lines stand for those of stacks, whichever these are
abbrev pub StandForBoth : Scale → TreeState → Gathered → List CostLine → Type 0
StandForBoth scale tree few lines = (stacks : List Costed) (depth : ℕ)
    → HaveLines scale tree few stacks depth → map (line_at tree) lines ≡ cost_lines depth scale stacks

-- a taker has taken the lines of both
abbrev pub TakesBoth : {X : Type 0} → (TreeState → X → List CostLine → X → Type 0) → Scale
    → TreeState → Gathered → X → X → Type 0
TakesBoth takes scale tree few old new =
    (lines : List CostLine) × StandForBoth scale tree few lines × takes tree old lines new
