-- What contracts see of a tree: its texts by their numbers, the front of each node, and the nodes
-- with their costs, both by number.
use Rattle.std.specs.Prelude.{ℕ, List}
use Rattle.cost_tree.specs.declared.node.CostNode.{CostNode}

-- the texts of fronts by their numbers, and by the nodes' numbers their fronts and what they cost
pub record TreeState : Type 0 where
  pub names : List (List ℕ)
  pub fronts : List (List (List ℕ))
  pub nodes : List CostNode
