use Rattle.std.proofs.Common.{sym, ◌∙◌, arith}
use Rattle.record_scripts.proofs.NodeLemmas.{node-same, not-true-is}
use Rattle.record_scripts.proofs.SameLemmas.{answers-true, same-items, same-next}
use Rattle.record_scripts.proofs.stacks.are_same_nodes.Goals as goal

pub loop-number-preserved : goal.loop-number-preserved
loop-number-preserved c =
    let nodes = c.args.nodes.now in
    let others = c.args.others.now in
    let number = c.loop-number.number in
    same-next nodes others number c.loop-number.invariant
    (node-same nodes others number c.node.result c.node-in-loop-number.result c.requires.single
    c.requires.other_single
    (omega (arith, c.loop-number-test.true, c.len-count.ensures.count))
    (omega (arith, c.loop-number-test.true, c.if-count-len.false, c.len.ensures.count))
    c.node.ensures.entry c.node-in-loop-number.ensures.entry
    (not-true-is _ (sym c.if-ne.false ∙ c.ne.ensures)))

pub returns-clause-same : goal.returns-clause-same
returns-clause-same c = answers-true _ (same-items c.args.nodes.now c.args.others.now
    (omega (arith, c.len-count.ensures.count, c.len.ensures.count, c.if-count-len.false))
    (λ k within. c.loop-number.invariant k
    (omega (arith, within, c.len-count.ensures.count, c.loop-number-test.false))))
