-- A tree of stacks has one node for each front of at most so many texts that costs something, and
-- node 0 for the empty one, with these figures. A node's parent stands before it, and is that of
-- its front without the last text. Of two children of a node the one with the lower number has the
-- lower first stack.
use Rattle.std.specs.Prelude.{◌≡◌, ℕ, ◌<◌, ◌≤◌, List, [], ◌∷◌, ◌++◌, length, Some, slice_get}
use Rattle.cost_tree.specs.declared.node.CostNode.{CostNode}
use Rattle.cost_tree.specs.Costed.{Costed}
use Rattle.cost_tree.specs.Inclusive.{inclusive, own, least}
use Rattle.cost_tree.specs.TreeState.{TreeState}

-- a node's figures are those of its front
pub record HasFigures (stacks : List Costed) (front : List (List ℕ)) (node : CostNode) : Type
    0 where
  pub cost : node.cost ≡ inclusive front stacks
  pub own : node.own ≡ own front stacks
  pub first : 0 < inclusive front stacks → node.first ≡ least front stacks
  pub first_of_none : inclusive front stacks ≡ 0 → node.first ≡ 0

-- a node stands behind its parent, whose front is the node's without the last text
pub record IsBelow (tree : TreeState) (n : ℕ) (front : List (List ℕ)) (node : CostNode) : Type
    0 where
  pub lower : node.parent < n
  pub text : List ℕ
  pub parent_front : List (List ℕ)
  pub parent : slice_get tree.fronts node.parent ≡ Some parent_front
  pub longer : front ≡ parent_front ++ text ∷ []

-- the tree has one node for each front of at most so many texts whose cost isn't 0, and node 0 for the empty front
pub record IsTreeOf (tree : TreeState) (stacks : List Costed) (depth : ℕ) : Type 0 where
  -- the nodes
  pub root : slice_get tree.fronts 0 ≡ Some []
  pub count : length tree.nodes ≡ length tree.fronts
  pub distinct : (m n : ℕ) (front : List (List ℕ)) → slice_get tree.fronts m ≡ Some front
      → slice_get tree.fronts n ≡ Some front → m ≡ n
  pub complete : (front : List (List ℕ)) → length front ≤ depth → 0 < inclusive front stacks
      → (n : ℕ) × (slice_get tree.fronts n ≡ Some front)
  pub only : (n : ℕ) (front : List (List ℕ)) → 0 < n → slice_get tree.fronts n ≡ Some front
      → 0 < inclusive front stacks
  pub short : (n : ℕ) (front : List (List ℕ)) → slice_get tree.fronts n ≡ Some front
      → length front ≤ depth
  -- what they say
  pub figures : (n : ℕ) (front : List (List ℕ)) (node : CostNode)
      → slice_get tree.fronts n ≡ Some front → slice_get tree.nodes n ≡ Some node
      → HasFigures stacks front node
  pub below : (n : ℕ) (front : List (List ℕ)) (node : CostNode) → 0 < n
      → slice_get tree.fronts n ≡ Some front → slice_get tree.nodes n ≡ Some node
      → IsBelow tree n front node
  pub root_parent : (node : CostNode) → slice_get tree.nodes 0 ≡ Some node → node.parent ≡ 0
  -- the children of a node, in the order of their numbers, stand by ascending `first`
  pub siblings : (m n : ℕ) (older younger : CostNode) → 0 < m → m < n
      → slice_get tree.nodes m ≡ Some older → slice_get tree.nodes n ≡ Some younger
      → older.parent ≡ younger.parent → older.first < younger.first
