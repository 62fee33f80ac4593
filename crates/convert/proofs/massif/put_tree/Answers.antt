use Rattle.std.proofs.Common.{sym, ◌∙◌}
use Rattle.convert.proofs.Faults.{tree-large, tree-small}
use Rattle.convert.proofs.massif.put_tree.Goals as goal

pub returns-then-sum_is_too_large-clause-fault : goal.returns-then-sum_is_too_large-clause-fault
returns-then-sum_is_too_large-clause-fault c = λ other.
    tree-large c.args.tree.now c.deref.result.now (c.deref.ensures.value ∙ c.in_ok-left.ensures.left)
    (sym c.sum_is_too_large.ensures ∙ c.if-sum_is_too_large.true)

pub returns-clause-no_fault : goal.returns-clause-no_fault
returns-clause-no_fault c =
    tree-small c.args.tree.now c.deref.result.now (c.deref.ensures.value ∙ c.in_ok-left.ensures.left)
    (sym c.sum_is_too_large.ensures ∙ c.if-sum_is_too_large.false)
