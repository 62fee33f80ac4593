-- What a tree says of its stacks but for their costs: its fronts, its order, and which stack is the first of each.
use Rattle.std.proofs.Common.{◌≡◌, ℕ, ◌<◌, ◌≤◌, List, [], length, Some}
use Rattle.std.specs.Prelude.{slice_get}
use Rattle.cost_tree.specs.declared.node.CostNode.{CostNode}
use Rattle.cost_tree.specs.Costed.{Costed}
use Rattle.cost_tree.specs.Inclusive.{inclusive, least}
use Rattle.cost_tree.specs.IsTreeOf.{IsBelow, IsTreeOf}
use Rattle.cost_tree.specs.TreeState.{TreeState}

pub record IsForest (tree : TreeState) (stacks : List Costed) (depth : ℕ) : Type 0 where
  pub root : slice_get tree.fronts 0 ≡ Some []
  pub count : length tree.nodes ≡ length tree.fronts
  pub distinct : (m n : ℕ) (front : List (List ℕ)) → slice_get tree.fronts m ≡ Some front
      → slice_get tree.fronts n ≡ Some front → m ≡ n
  pub complete : (front : List (List ℕ)) → length front ≤ depth → 0 < inclusive front stacks
      → (n : ℕ) × (slice_get tree.fronts n ≡ Some front)
  pub only : (n : ℕ) (front : List (List ℕ)) → 0 < n → slice_get tree.fronts n ≡ Some front → 0 < inclusive front stacks
  pub short : (n : ℕ) (front : List (List ℕ)) → slice_get tree.fronts n ≡ Some front → length front ≤ depth
  pub firsts : (n : ℕ) (front : List (List ℕ)) (node : CostNode) → slice_get tree.fronts n ≡ Some front
      → slice_get tree.nodes n ≡ Some node → 0 < inclusive front stacks → node.first ≡ least front stacks
  pub below : (n : ℕ) (front : List (List ℕ)) (node : CostNode) → 0 < n → slice_get tree.fronts n ≡ Some front
      → slice_get tree.nodes n ≡ Some node → IsBelow tree n front node
  pub siblings : (m n : ℕ) (older younger : CostNode) → 0 < m → m < n → slice_get tree.nodes m ≡ Some older
      → slice_get tree.nodes n ≡ Some younger → older.parent ≡ younger.parent → older.first < younger.first

pub IsForest-tree : (tree : TreeState) (stacks : List Costed) (depth : ℕ) → IsTreeOf tree stacks depth
    → IsForest tree stacks depth
IsForest-tree tree stacks depth is = record {
  root = is.root;
  count = is.count;
  distinct = is.distinct;
  complete = is.complete;
  only = is.only;
  short = is.short;
  firsts = λ n front node at node_at some. (is.figures n front node at node_at).first some;
  below = is.below;
  siblings = is.siblings;
}
