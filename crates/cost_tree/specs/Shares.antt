-- The children of a node by their costs, for private clauses.
use Rattle.std.specs.Prelude.{ℕ, not, Bool, List, filter, length, slice_get, sum_by, map, ◌<◌, ◌≤◌, ◌^◌}
use Rattle.std.specs.Option.{option_map_or}
use Rattle.cost_tree.specs.declared.children.Child.{Child}
use Rattle.cost_tree.specs.declared.children.Gathered.{Gathered}
use Rattle.cost_tree.specs.declared.scale.Scale.{Scale}
use Rattle.cost_tree.specs.Children.{children_of}
use Rattle.cost_tree.specs.CostLines.{is_small}
use Rattle.cost_tree.specs.Order.{by_cost}
use Rattle.cost_tree.specs.TreeState.{TreeState}

-- what node m costs
abbrev pub cost_at : TreeState → ℕ → ℕ
cost_at tree m = option_map_or (λ node. node.cost) (slice_get tree.nodes m) 0

abbrev pub child_at : TreeState → ℕ → Child
child_at tree m = record { node = m; cost = cost_at tree m }

abbrev pub is_small_at : Scale → TreeState → ℕ → Bool
is_small_at scale tree m = is_small scale (cost_at tree m)

abbrev pub is_kept_at : Scale → TreeState → ℕ → Bool
is_kept_at scale tree m = not (is_small_at scale tree m)

-- so many nodes, and what they cost together
abbrev pub gathered_in : TreeState → List ℕ → Gathered
gathered_in tree nodes = record { places = length nodes; cost = sum_by (cost_at tree) nodes }

-- of some nodes those that have lines of their own, and those that are gathered
abbrev pub kept_of : Scale → TreeState → List ℕ → List Child
kept_of scale tree nodes = map (child_at tree) (filter (is_kept_at scale tree) nodes)

abbrev pub small_of : Scale → TreeState → List ℕ → Gathered
small_of scale tree nodes = gathered_in tree (filter (is_small_at scale tree) nodes)

-- the children of a node that have lines of their own, in the order of their lines
unfoldable pub kept_children : Scale → TreeState → ℕ → List ℕ
kept_children scale tree n = by_cost (cost_at tree)
    (filter (is_kept_at scale tree) (children_of tree.nodes n))

unfoldable pub small_children : Scale → TreeState → ℕ → List ℕ
small_children scale tree n = filter (is_small_at scale tree) (children_of tree.nodes n)

-- a node is held, and how many children it has, and what they cost together, fits into numbers
pub record HasFewChildren (tree : TreeState) (n : ℕ) : Type 0 where
  pub held : n < length tree.nodes
  pub within : sum_by (cost_at tree) (children_of tree.nodes n) ≤ 2 ^ 62
  pub few : length (children_of tree.nodes n) < 2 ^ 32
