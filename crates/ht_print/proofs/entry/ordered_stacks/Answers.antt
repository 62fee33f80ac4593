use Rattle.std.proofs.Common.{List, length, ap, ◌∙◌, arith}
use Rattle.ht_print.specs.declared.entry.Entry.{Entry}
use Rattle.ht_print.specs.ReportOrder.{in_order}
use Rattle.ht_print.proofs.EntryLists.{stacks-few}
use Rattle.ht_print.proofs.entry.ordered_stacks.Goals as goal

pub returns-clause-few : goal.returns-clause-few
returns-clause-few c =
    let few = stacks-few c.args.figures.now in
    let all = c.requires.few in
    let count = ap (λ (es : List Entry). length es) (c.sort.ensures ∙ ap in_order c.in_ok-stacks.ensures.stacks) in
    omega (arith, few, all, count)
