use Rattle.std.proofs.Common.{ℕ, set, refl, ap, ◌∙◌, sym, arith}
use Rattle.std.proofs.lemmas.Bool.{eqb-true, eqb-false}
use Rattle.cost_tree.specs.declared.node.CostNode.{CostNode}
use Rattle.cost_tree.proofs.Adding.{GrowsBy-is}
use Rattle.cost_tree.proofs.branches.Branches.add.Goals as goal

pub returns-clause-grown : goal.returns-clause-grown
returns-clause-grown c =
    let reached = c.number.new.self in
    let n : ℕ = c.in_ok-node.node in
    GrowsBy-is c.args.edges.now c.args.end c.args.list c.args.cost c.args.depth c.args.self.now _ reached _
    c.index_mut.result.now c.index_mut-2.result.now n c.is_empty-is_whole.result c.requires.cost
    c.index_mut.ensures.value
    (record {
      edges = refl;
      nodes_are = ap (λ (x : CostNode). set c.args.self.now.nodes.items 0 x) c.count.ensures;
      levels = refl;
      numbered = refl;
    })
    c.in_ok-node.ensures.reached
    (λ yes'. let none = eqb-true _ 0 (sym c.is_empty-is_whole.ensures ∙ yes') in omega arith)
    (λ no'. let some = eqb-false _ 0 (sym c.is_empty-is_whole.ensures ∙ no') in omega arith)
    c.index_mut-2.ensures.value
    (record {
      edges = refl;
      nodes_are = ap (λ (x : CostNode). set reached.nodes.items n x) c.end_at.ensures;
      levels = refl;
      numbered = refl;
    })
