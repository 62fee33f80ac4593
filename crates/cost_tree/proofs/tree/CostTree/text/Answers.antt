use Rattle.std.proofs.Common.{◌≡◌, ℕ, ◌-◌, ◌<◌, List, Some, Bor, length, get_or, sym, ap, ◌∙◌, subst, arith}
use Rattle.std.specs.Prelude.{slice_get}
use Rattle.std.proofs.lemmas.Option.{slice_get-get_or}
use Rattle.cost_tree.specs.declared.edge.Edge.{Edge}
use Rattle.cost_tree.specs.HeldNames.{names_in}
use Rattle.cost_tree.specs.Texts.{IsText, fronts_of, text_of}
use Rattle.cost_tree.specs.TreeState.{TreeState}
use Rattle.cost_tree.specs.View.{edges_of}
use Rattle.cost_tree.proofs.Beside.{text-beside}
use Rattle.cost_tree.proofs.Trees.{edge-text, last-text, text-below, text-found}
use Rattle.cost_tree.proofs.tree.CostTree.text.Goals as goal
use Rattle.cost_tree.proofs.tree.CostTree.text.Goals.{After-unwrap_or}

-- the edge that stands past the end of a list
abbrev no_edge : Edge
no_edge = record { parent = 0; text = 0 }

-- the edge of the node
abbrev edge_of : After-unwrap_or → Edge
edge_of c = get_or (edges_of c.self.inside) (c.args.n - 1) no_edge

edge-at : (c : After-unwrap_or) → 0 < c.args.n
    → slice_get (edges_of c.self.inside) (c.args.n - 1) ≡ Some (edge_of c)
edge-at c above =
    let count = ap (λ (t : TreeState). length t.nodes) c.self.view_is in
    let nodes_count = c.self.invariant.branches.nodes_count in
    let held = c.requires.held in
    slice_get-get_or (edges_of c.self.inside) (c.args.n - 1) no_edge (omega arith)

-- and its text
edge-reads : (c : After-unwrap_or) → 0 < c.args.n
    → c.unwrap_or.result.now ≡ text_of (names_in c.self.inside.names) (edge_of c).text
edge-reads c above =
    let tree = c.self.inside in
    let names : List (List ℕ) = names_in tree.names in
    let edges : List Edge = edges_of tree in
    let count = ap (λ (t : TreeState). length t.nodes) c.self.view_is in
    let nodes_count = c.self.invariant.branches.nodes_count in
    let held = c.requires.held in
    let number : c.text.result ≡ (edge_of c).text =
    c.text.ensures
    ∙ text-beside edges tree.nodes.items tree.links.links.items c.args.n no_edge c.self.invariant.links.beside above
    (omega arith) in
    let is_text =
    edge-text names edges tree.nodes.items (fronts_of names edges) (c.args.n - 1) (edge_of c) c.self.invariant.branches
    (sym (edge-at c above)) in
    let is_read =
    subst (λ (k : ℕ). IsText c.names.result.now k) (sym number)
    (subst (λ (ns : List (List ℕ)). IsText ns (edge_of c).text) (sym c.names.ensures) is_text) in
    ap (λ (name : Bor (List ℕ)). name.now) c.unwrap_or.ensures
    ∙ text-found c.names.result.now c.text.result c.name.result _ (c.name.ensures.found.1 is_read) c.name.ensures.name
    ∙ ap (λ (ns : List (List ℕ)). text_of ns c.text.result) c.names.ensures
    ∙ ap (λ (k : ℕ). text_of names k) number

pub returns-clause-last : goal.returns-clause-last
returns-clause-last c = λ above.
    let tree = c.self.inside in
    let count = ap (λ (t : TreeState). length t.nodes) c.self.view_is in
    let last =
    last-text (names_in tree.names) (edges_of tree) tree.nodes.items c.args.n (c.args.n - 1) (edge_of c)
    c.unwrap_or.result.now c.self.invariant.branches above (omega (arith, c.requires.held)) (omega arith)
    (sym (edge-at c above)) (edge-reads c above) in
    (last.0, sym (ap (λ (t : TreeState). slice_get t.fronts c.args.n) c.self.view_is) ∙ last.1)

pub returns-clause-below : goal.returns-clause-below
returns-clause-below c = λ node front above node_at parent_at.
    let tree = c.self.inside in
    let node_held = ap (λ (t : TreeState). slice_get t.nodes c.args.n) c.self.view_is ∙ node_at in
    let parent_held = ap (λ (t : TreeState). slice_get t.fronts node.parent) c.self.view_is ∙ parent_at in
    sym (ap (λ (t : TreeState). slice_get t.fronts c.args.n) c.self.view_is)
    ∙ text-below (names_in tree.names) (edges_of tree) tree.nodes.items c.args.n (c.args.n - 1) (edge_of c)
    c.unwrap_or.result.now node front c.self.invariant.branches above node_held parent_held (omega arith)
    (sym (edge-at c above)) (edge-reads c above)
