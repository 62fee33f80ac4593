-- What the parts of a tree say together, by the names of its texts, for private clauses.
use Rattle.std.specs.Prelude.{ℕ, List, ◌≡◌, ◌+◌, length}
use Rattle.cost_tree.specs.declared.edge.Edge.{Edge}
use Rattle.cost_tree.specs.declared.linked.Linked.{Linked}
use Rattle.cost_tree.specs.declared.node.CostNode.{CostNode}
use Rattle.cost_tree.specs.Costed.{Costed, costed}
use Rattle.cost_tree.specs.Growth.{AreBranches}
use Rattle.cost_tree.specs.IsTreeOf.{IsTreeOf}
use Rattle.cost_tree.specs.NodeLinks.{AreNodeLinks, edges_in}
use Rattle.cost_tree.specs.Texts.{fronts_of, AreTexts, lists_of}
use Rattle.cost_tree.specs.declared.branches.Branches.{Branches}
use Rattle.cost_tree.specs.Children.{AreBehindParents}
use Rattle.cost_tree.specs.Shapes.{lists_in}
use Rattle.intern_tables.specs.Distinct.{AreDistinct}

-- the nodes are those of the edges, and the tree is that of the stacks
pub record IsTree (names : List (List ℕ)) (edges : List Edge) (nodes : List CostNode)
    (stacks : List Costed) (depth : ℕ) : Type 0 where
  pub branches : AreBranches names edges nodes (fronts_of names edges)
  pub tree_of : IsTreeOf (record { names = names; fronts = fronts_of names edges; nodes = nodes })
      stacks depth

-- and its nodes have their links
pub record IsLinkedTree (names : List (List ℕ)) (tree : Linked) (stacks : List Costed)
    (depth : ℕ) : Type 0 where
  pub nodes : IsTree names (edges_in tree.nodes.items tree.links.links.items) tree.nodes.items
      stacks depth
  pub links : AreNodeLinks (edges_in tree.nodes.items tree.links.links.items) tree.nodes.items
      tree.links.links.items

-- there is node 0, and for each edge a node that stands behind its parent
pub record IsRooted (tree : Branches) : Type 0 where
  pub count : length tree.nodes.items ≡ length tree.edges.items + 1
  pub lower : AreBehindParents tree.nodes.items

-- the tree is that of a shape's lists with these costs, whichever texts the numbers are those of
abbrev pub IsTreeFor : List Edge → List ℕ → List ℕ → ℕ → Branches → Type 0
IsTreeFor edges ends costs depth tree = (names : List (List ℕ)) → AreDistinct names
    → AreTexts names (lists_in edges ends)
    → IsTree names tree.edges.items tree.nodes.items
    (costed (lists_of names (lists_in edges ends)) costs) depth

-- with its links a tree is still that of the stacks that it was that of
abbrev pub KeepsTree : Branches → Linked → Type 0
KeepsTree branches linked = (names : List (List ℕ)) (stacks : List Costed) (depth : ℕ)
    → IsTree names branches.edges.items branches.nodes.items stacks depth
    → IsLinkedTree names linked stacks depth
