-- A list's way up along a shape, to the first node that a tree has.
use Rattle.std.specs.Prelude.{◌≡◌, ℕ, ◌+◌, ◌-◌, ◌≤◌, List, length, take, Some, slice_get}
use Rattle.cost_tree.specs.declared.edge.Edge.{Edge}
use Rattle.cost_tree.specs.Shapes.{list_at, numbers_of}

-- the node at a place of the way is that of the list without so many of its last numbers, and the tree has none for it
pub record IsOnPath (edges : List Edge) (numbered list : List ℕ) (place node : ℕ) : Type 0 where
  pub front : slice_get (numbers_of edges) node ≡ Some (take (length list - place) list)
  pub free : slice_get numbered node ≡ Some 0

-- the way of a list up to a node
pub record IsPath (edges : List Edge) (numbered list path : List ℕ) (node : ℕ) : Type 0 where
  pub short : length path ≤ length list
  pub front : slice_get (numbers_of edges) node ≡ Some (take (length list - length path) list)
  pub each : (place node : ℕ) → slice_get path place ≡ Some node
      → IsOnPath edges numbered list place node

-- the way of the list that ends at a node, up to the node of node n of the tree
pub record IsPathUp (edges : List Edge) (numbered : List ℕ) (end : ℕ) (path : List ℕ) (n : ℕ) : Type
    0 where
  pub node : ℕ
  pub way : IsPath edges numbered (list_at edges end) path node
  pub number : slice_get numbered node ≡ Some (n + 1)
