use Rattle.std.proofs.Common.{length, ap, refl, arith}
use Rattle.std.proofs.lemmas.Option.{slice_get_read}
use Rattle.cost_tree.specs.HeldNames.{names_in}
use Rattle.cost_tree.specs.Texts.{fronts_of}
use Rattle.cost_tree.specs.TreeState.{TreeState}
use Rattle.cost_tree.specs.View.{edges_of}
use Rattle.cost_tree.proofs.Trees.{HasEdge-is}
use Rattle.cost_tree.proofs.tree.CostTree.node.Goals as goal

pub returns-clause-lower : goal.returns-clause-lower
returns-clause-lower c = λ above.
    let tree = c.self.inside in
    let count = ap (λ (t : TreeState). length t.nodes) c.self.view_is in
    let at =
    slice_get_read tree.nodes.items (length tree.nodes.items) c.args.n c.index.result.now refl (omega arith)
    c.index.ensures in
    let edge =
    HasEdge-is (names_in tree.names) (edges_of tree) tree.nodes.items
    (fronts_of (names_in tree.names) (edges_of tree)) c.args.n c.index.result.now c.self.invariant.branches above
    at in
    edge.lower
