-- How the lines that a tree gives stand for lines of fronts. A tree has lines where it is that of
-- fewer than 2^32 stacks, which cost at most 2^62 together, to fewer than 2^32 texts.
use Rattle.std.specs.Prelude.{ℕ, ◌^◌, ◌<◌, ◌≤◌, List, [], length, slice_index_or, sum_by}
use Rattle.std.specs.Prelude.{◌≡◌, ◌∷◌, ◌++◌, Some, slice_get}
use Rattle.cost_tree.specs.declared.line.CostLine.{CostLine}
use Rattle.cost_tree.specs.declared.line.Place.{Place}
use Rattle.cost_tree.specs.declared.line.Place.TheVariants.{Node, Gathered}
use Rattle.cost_tree.specs.Costed.{Costed, costed}
use Rattle.cost_tree.specs.CostLines.{FrontLine, Shown, a_front, gathered}
use Rattle.cost_tree.specs.IsTreeOf.{IsTreeOf}
use Rattle.cost_tree.specs.TreeState.{TreeState}
use Rattle.cost_tree.specs.declared.node.CostNode.{CostNode}

-- the front of node n
abbrev pub front_at : TreeState → ℕ → List (List ℕ)
front_at tree n = slice_index_or tree.fronts n []

-- what a place of a line shows
abbrev pub shown_at : TreeState → Place → Shown
shown_at tree (Node node) = a_front (front_at tree node)
shown_at tree (Gathered places) = gathered places

-- the line of fronts that a line stands for
abbrev pub line_at : TreeState → CostLine → FrontLine
line_at tree line = record {
  level = line.level;
  children = line.children;
  cost = line.cost;
  shown = shown_at tree line.place;
}

-- a node that is shown is held
abbrev pub IsPlace : TreeState → Place → Type 0
IsPlace tree (Node node) = node < length tree.nodes
IsPlace tree (Gathered places) = Unit {0}

-- the tree is that of the stacks to fronts of so many texts, and what its lines count fits into numbers
pub record HasLines (tree : TreeState) (stacks : List Costed) (depth : ℕ) : Type 0 where
  pub tree_of : IsTreeOf tree stacks depth
  pub few : length stacks < 2 ^ 32
  pub within : sum_by (λ (stack : Costed). stack.cost) stacks ≤ 2 ^ 62
  pub shallow : depth < 2 ^ 32

-- a line's node is held, its front is no longer than the tree's, and it costs no more than all stacks
pub record IsLineOf (tree : TreeState) (stacks : List Costed) (depth : ℕ) (line : CostLine) : Type
    0 where
  pub place : IsPlace tree line.place
  pub level : line.level ≤ depth
  pub within : line.cost ≤ sum_by (λ (stack : Costed). stack.cost) stacks

-- the tree of lists, and its lines, whichever costs a costing has
abbrev pub IsTreeOfStated : (List ℕ → Type 0) → List (List (List ℕ)) → ℕ → TreeState → Type 0
IsTreeOfStated are_costs lists depth tree = (costs : List ℕ) → are_costs costs
    → IsTreeOf tree (costed lists costs) depth

abbrev pub HasLinesOfStated : (List ℕ → Type 0) → List (List (List ℕ)) → ℕ → TreeState → Type 0
HasLinesOfStated are_costs lists depth tree = (costs : List ℕ) → are_costs costs
    → HasLines tree (costed lists costs) depth

-- a text is the last one of a node's front
abbrev pub EndsFront : TreeState → ℕ → List ℕ → Type 0
EndsFront tree n text = (front : List (List ℕ))
    × (slice_get tree.fronts n ≡ Some (front ++ text ∷ []))

-- a node's front is its parent's and this text
abbrev pub LengthensFront : TreeState → ℕ → List ℕ → Type 0
LengthensFront tree n text = (node : CostNode) (front : List (List ℕ)) → 0 < n
    → slice_get tree.nodes n ≡ Some node → slice_get tree.fronts node.parent ≡ Some front
    → slice_get tree.fronts n ≡ Some (front ++ text ∷ [])
