-- What a tree that grows says of the stacks that it was given so far, and of the texts so far of
-- the one that it is given.
use Rattle.std.specs.Prelude.{◌≡◌, ℕ, ◌==◌, ◌+◌, ◌<◌, ◌≤◌, Bool, List, [], length, take, Some, slice_get, sum_by}
use Rattle.std.specs.Prelude.{if◌then◌else◌}
use Rattle.cost_tree.specs.declared.edge.Edge.{Edge}
use Rattle.cost_tree.specs.declared.node.CostNode.{CostNode}
use Rattle.cost_tree.specs.Costed.{Costed, costed}
use Rattle.cost_tree.specs.Inclusive.{inclusive, is_front, own, least}
use Rattle.cost_tree.specs.Shapes.{AreSteps, lists_in}
use Rattle.cost_tree.specs.Texts.{IsText, fronts_of, text_of, AreTexts, lists_of}
use Rattle.cost_tree.specs.declared.branches.Branches.{Branches}
use Rattle.intern_tables.specs.Distinct.{AreDistinct}

-- node 0 after a list that costs something is counted for it
abbrev pub counted : CostNode → ℕ → ℕ → CostNode
counted node list cost
    = record node { cost = node.cost + cost; first = if node.cost == 0 then list else node.first }

-- node n after a list ended at it, or was cut there; node 0 has counted the list before
abbrev pub ended : ℕ → Bool → ℕ → CostNode → CostNode
ended n is_whole cost node =
    record node {
      cost = if n == 0 then node.cost else node.cost + cost;
      own = if is_whole
          then node.own + cost else node.own;
    }

-- what bounds a node's figures
abbrev pub weight : CostNode → ℕ
weight node = node.cost + node.own

-- what the stacks cost whose first so many texts are the front
unfoldable pub ending : ℕ → List (List ℕ) → List Costed → ℕ
ending depth front stacks = sum_by
    (λ stack. if is_front front (take depth stack.texts) then stack.cost else 0) stacks

-- the nodes are node 0 and one for each edge, with the parents that the edges say
pub record AreBranches (names : List (List ℕ)) (edges : List Edge) (nodes : List CostNode)
    (fronts : List (List (List ℕ))) : Type 0 where
  pub steps : AreSteps (text_of names) edges fronts
  pub texts : (place : ℕ) (edge : Edge) → slice_get edges place ≡ Some edge → IsText names edge.text
  pub nodes_count : length nodes ≡ length edges + 1
  pub root_parent : (node : CostNode) → slice_get nodes 0 ≡ Some node → node.parent ≡ 0
  pub parent : (place : ℕ) (edge : Edge) (node : CostNode) → slice_get edges place ≡ Some edge
      → slice_get nodes (place + 1) ≡ Some node → node.parent ≡ edge.parent

-- the tree has the nodes of the stacks. A node has its own cost by those that are done, and the
-- cost of those that end at it or are cut there; node 0 has the cost of all
pub record IsGrown (fronts : List (List (List ℕ))) (nodes : List CostNode)
    (stacks done : List Costed) (depth : ℕ) : Type 0 where
  pub short : (n : ℕ) (front : List (List ℕ)) → slice_get fronts n ≡ Some front
      → length front ≤ depth
  pub owns : (n : ℕ) (front : List (List ℕ)) (node : CostNode) → slice_get fronts n ≡ Some front
      → slice_get nodes n ≡ Some node → node.own ≡ own front done
  pub ends : (n : ℕ) (front : List (List ℕ)) (node : CostNode) → 0 < n
      → slice_get fronts n ≡ Some front → slice_get nodes n ≡ Some node
      → node.cost ≡ ending depth front done
  pub firsts : (n : ℕ) (front : List (List ℕ)) (node : CostNode) → slice_get fronts n ≡ Some front
      → slice_get nodes n ≡ Some node → 0 < inclusive front stacks → node.first ≡ least front stacks
  pub root : (node : CostNode) → slice_get nodes 0 ≡ Some node → node.cost ≡ inclusive [] stacks
  pub empty : (node : CostNode) → slice_get nodes 0 ≡ Some node → node.cost ≡ 0 → node.first ≡ 0
  pub complete : (front : List (List ℕ)) → length front ≤ depth → 0 < inclusive front stacks
      → (n : ℕ) × (slice_get fronts n ≡ Some front)
  pub only : (n : ℕ) (front : List (List ℕ)) → 0 < n → slice_get fronts n ≡ Some front
      → 0 < inclusive front stacks
  pub order : (m n : ℕ) (older younger : CostNode) → 0 < m → m ≤ n → slice_get nodes m ≡ Some older
      → slice_get nodes n ≡ Some younger → older.first ≤ younger.first

-- the nodes are those of the stacks
pub record HasGrown (names : List (List ℕ)) (edges : List Edge) (nodes : List CostNode)
    (stacks : List Costed) (depth : ℕ) : Type 0 where
  pub branches : AreBranches names edges nodes (fronts_of names edges)
  pub grown : IsGrown (fronts_of names edges) nodes stacks stacks depth

-- they are those of a shape's lists with these costs, whichever texts the numbers are those of
abbrev pub HasGrownFor : List Edge → List ℕ → List ℕ → ℕ → Branches → Type 0
HasGrownFor edges ends costs depth tree = (names : List (List ℕ)) → AreDistinct names
    → AreTexts names (lists_in edges ends)
    → HasGrown names tree.edges.items tree.nodes.items
    (costed (lists_of names (lists_in edges ends)) costs) depth
