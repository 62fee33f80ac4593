-- How contracts see the fields of a tree, for private clauses.
use Rattle.std.specs.Prelude.{List}
use Rattle.cost_tree.specs.declared.edge.Edge.{Edge}
use Rattle.cost_tree.specs.declared.tree.CostTree.TheInside.{Inside}
use Rattle.cost_tree.specs.Growth.{AreBranches}
use Rattle.cost_tree.specs.HeldNames.{names_in}
use Rattle.cost_tree.specs.NodeLinks.{AreNodeLinks, edges_in}
use Rattle.cost_tree.specs.Texts.{fronts_of}
use Rattle.cost_tree.specs.TreeState.{TreeState}

-- the edges of the nodes
abbrev pub edges_of : Inside → List Edge
edges_of tree = edges_in tree.nodes.items tree.links.links.items

-- the texts, the fronts that the edges give, and the nodes
abbrev pub state_of : Inside → TreeState
state_of tree = record {
  names = names_in tree.names;
  fronts = fronts_of (names_in tree.names) (edges_of tree);
  nodes = tree.nodes.items;
}

-- the nodes are those of the edges, with their links
pub record IsWhole (tree : Inside) : Type 0 where
  pub branches : AreBranches (names_in tree.names) (edges_of tree) tree.nodes.items
      (fronts_of (names_in tree.names) (edges_of tree))
  pub links : AreNodeLinks (edges_of tree) tree.nodes.items tree.links.links.items
