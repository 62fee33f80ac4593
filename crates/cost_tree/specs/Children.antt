-- The children of a node are the nodes that have it as their parent, by ascending number.
use Rattle.std.specs.Prelude.{◌≡◌, ◌≢◌, ℕ, ◌==◌, ◌+◌, ◌-◌, ◌<◌, ◌≤◌, Bool, false, List, [], ◌∷◌, length, filter}
use Rattle.std.specs.Prelude.{slice_get, slice_index, Some, if◌then◌else◌, Contains}
use Rattle.std.specs.List.{range_with_len}
use Rattle.std.specs.Option.{option_map_or}
use Rattle.cost_tree.specs.declared.node.CostNode.{CostNode}

-- whether node m has the parent n
abbrev pub has_parent : List CostNode → ℕ → ℕ → Bool
has_parent nodes n m = option_map_or (λ node. node.parent == n) (slice_get nodes m) false

-- the children of node n from node m on, by ascending number
unfoldable pub children_from : List CostNode → ℕ → ℕ → List ℕ
children_from nodes n m = filter (has_parent nodes n) (range_with_len m (length nodes - m))

-- the children of node n, by ascending number; node 0 is nobody's child
abbrev pub children_of : List CostNode → ℕ → List ℕ
children_of nodes n = children_from nodes n 1

-- each node but node 0 stands behind its parent
abbrev pub AreBehindParents : List CostNode → Type 0
AreBehindParents nodes = (n : ℕ) (node : CostNode) → 0 < n → slice_get nodes n ≡ Some node
    → node.parent < n

-- the children of node n from this child on; 0 stands for none
abbrev pub chain : List CostNode → ℕ → ℕ → List ℕ
chain nodes n child = if child == 0 then [] else child ∷ children_from nodes n (child + 1)

-- a child that a link from a node before `after` leads to
pub record IsLink (nodes : List CostNode) (n after child : ℕ) : Type 0 where
  pub rest : children_from nodes n after ≡ chain nodes n child
  pub within : child < length nodes
  pub parent : (node : CostNode) → child ≢ 0 → slice_get nodes child ≡ Some node → node.parent ≡ n

-- each node links to its first child and to its next sibling, of the nodes from node m on
pub record AreLinksFrom (nodes : List CostNode) (first_children next_siblings : List ℕ)
    (m : ℕ) : Type 0 where
  pub firsts_count : length first_children ≡ length nodes
  pub nexts_count : length next_siblings ≡ length nodes
  pub first : (n : ℕ) → n < length nodes → IsLink nodes n m (slice_index first_children n)
  pub next : (k : ℕ) (node : CostNode) → m ≤ k → slice_get nodes k ≡ Some node
      → IsLink nodes node.parent (k + 1) (slice_index next_siblings k)

-- all nodes are linked; node 0 is nobody's child
abbrev pub AreLinks : List CostNode → List ℕ → List ℕ → Type 0
AreLinks nodes first_children next_siblings = AreLinksFrom nodes first_children next_siblings 1

-- a list has every node whose parent is node n
abbrev pub HasAllChildren : List CostNode → ℕ → List ℕ → Type 0
HasAllChildren nodes n list = (m : ℕ) (node : CostNode) → 0 < m → slice_get nodes m ≡ Some node
    → node.parent ≡ n → Contains list m

-- and no others
abbrev pub HasOnlyChildren : List CostNode → ℕ → List ℕ → Type 0
HasOnlyChildren nodes n list = (m : ℕ) → Contains list m
    → (node : CostNode) × (0 < m) × (slice_get nodes m ≡ Some node) × (node.parent ≡ n)
