-- How nodes hang together. Parents have lower numbers than their nodes.
use Rattle.std.specs.Prelude.{◌≡◌, ℕ, ◌<◌, List, Some}
use Rattle.stack_table.specs.Node.{Node, node_at}

-- each node's parent has a lower number than the node
pub record HasLowerParents (nodes : List Node) : Type 0 where
  pub lower : (n : ℕ) (node : Node) → node_at nodes n ≡ Some node → node.parent < n
