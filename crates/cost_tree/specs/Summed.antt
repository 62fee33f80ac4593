-- What nodes cost with those below them. Each node but node 0 costs what ends at it and what its
-- children cost together.
use Rattle.std.specs.Prelude.{◌≡◌, ℕ, ◌+◌, ◌<◌, List, length, Some, slice_get, sum_by}
use Rattle.std.specs.Option.{option_map_or}
use Rattle.cost_tree.specs.declared.node.CostNode.{CostNode}
use Rattle.cost_tree.specs.Children.{children_from}

-- what node m costs
abbrev pub cost_in : List CostNode → ℕ → ℕ
cost_in nodes m = option_map_or (λ node. node.cost) (slice_get nodes m) 0

-- a node has its cost with those of its children from node m on, and all else as before; node 0 is as before
pub record AreSumsFrom (before after : List CostNode) (m : ℕ) : Type 0 where
  pub count : length after ≡ length before
  pub same : (n : ℕ) (old new : CostNode) → slice_get before n ≡ Some old
      → slice_get after n ≡ Some new → new ≡ record old { cost = new.cost }
  pub root : (old new : CostNode) → slice_get before 0 ≡ Some old → slice_get after 0 ≡ Some new
      → new.cost ≡ old.cost
  pub sum : (n : ℕ) (old new : CostNode) → 0 < n → slice_get before n ≡ Some old
      → slice_get after n ≡ Some new
      → new.cost ≡ old.cost + sum_by (cost_in after) (children_from before n m)

-- all children are in; node 0 is nobody's child
abbrev pub AreSums : List CostNode → List CostNode → Type 0
AreSums before after = AreSumsFrom before after 1
