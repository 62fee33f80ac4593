-- What stands of each node side by side, for private clauses.
use Rattle.std.specs.Prelude.{◌≡◌, ℕ, List, ◌∷◌, drop, map}
use Rattle.std.specs.List.{zip}
use Rattle.cost_tree.specs.declared.edge.Edge.{Edge}
use Rattle.cost_tree.specs.declared.links.Link.{Link}
use Rattle.cost_tree.specs.declared.node.CostNode.{CostNode}
use Rattle.cost_tree.specs.Children.{AreLinks}

-- the first children of the nodes, and their next siblings
abbrev pub firsts_in : List Link → List ℕ
firsts_in links = map (λ link. link.first_child) links

abbrev pub nexts_in : List Link → List ℕ
nexts_in links = map (λ link. link.next_sibling) links

-- what the nodes cost, and the numbers of their texts
abbrev pub costs_in : List Link → List ℕ
costs_in links = map (λ link. link.cost) links

abbrev pub texts_in : List Link → List ℕ
texts_in links = map (λ link. link.text) links

-- how a node goes on from its parent, and how all do but node 0, which has none
abbrev pub edge_in : CostNode → Link → Edge
edge_in node link = record { parent = node.parent; text = link.text }

unfoldable pub edges_in : List CostNode → List Link → List Edge
edges_in nodes links = map (λ both. edge_in both.0 both.1) (zip (drop 1 nodes) (drop 1 links))

-- they are those of the nodes and of their edges; node 0 has no edge
pub record AreBeside (edges : List Edge) (nodes : List CostNode) (links : List Link) : Type 0 where
  pub costs : costs_in links ≡ map (λ node. node.cost) nodes
  pub texts : texts_in links ≡ 0 ∷ map (λ edge. edge.text) edges

-- and the links lead to the nodes' children
pub record AreNodeLinks (edges : List Edge) (nodes : List CostNode) (links : List Link) : Type
    0 where
  pub beside : AreBeside edges nodes links
  pub children : AreLinks nodes (firsts_in links) (nexts_in links)
