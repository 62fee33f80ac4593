-- Lines are those of a tree where they stand for the lines of its stacks, whichever these are, and
-- each is a line of that tree.
use Rattle.std.specs.Prelude.{◌≡◌, ℕ, List, All, map, ◌++◌, ◌∷◌, []}
use Rattle.cost_tree.specs.declared.line.CostLine.{CostLine}
use Rattle.cost_tree.specs.declared.scale.Scale.{Scale}
use Rattle.cost_tree.specs.Costed.{Costed}
use Rattle.cost_tree.specs.CostLines.{cost_lines}
use Rattle.cost_tree.specs.TreeLines.{HasLines, IsLineOf, line_at}
use Rattle.cost_tree.specs.TreeState.{TreeState}

-- they stand for the lines of the stacks, whichever stacks the tree is that of
abbrev pub StandForAll : Scale → TreeState → List CostLine → Type 0
StandForAll scale tree lines = (stacks : List Costed) (depth : ℕ) → HasLines tree stacks depth
    → map (line_at tree) lines ≡ cost_lines depth scale stacks

-- each is a line of that tree
abbrev pub AreInTree : TreeState → List CostLine → Type 0
AreInTree tree lines = (stacks : List Costed) (depth : ℕ) → HasLines tree stacks depth
    → All (IsLineOf tree stacks depth) lines

-- both
pub record AreLinesOf (scale : Scale) (tree : TreeState) (lines : List CostLine) : Type 0 where
  pub all : StandForAll scale tree lines
  pub each : AreInTree tree lines

-- it is a tree of some stacks that has lines
abbrev pub GivesLines : TreeState → Type 0
GivesLines tree = (stacks : List Costed) × (depth : ℕ) × HasLines tree stacks depth

-- a taker takes a line behind those that it has taken
abbrev pub TakesLine : {X : Type 0} → (X → List CostLine → X → Type 0) → CostLine → X → X → Type 0
TakesLine {X} takes line old new = (first : X) (lines : List CostLine) → takes first lines old
    → takes first (lines ++ line ∷ []) new

-- a taker has taken the lines of a tree
abbrev pub TakesLines : {X : Type 0} → (TreeState → X → List CostLine → X → Type 0) → Scale
    → TreeState → X → X → Type 0
TakesLines takes scale tree old new =
    (lines : List CostLine) × AreLinesOf scale tree lines × takes tree old lines new
