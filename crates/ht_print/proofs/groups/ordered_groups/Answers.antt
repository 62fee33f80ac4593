use Rattle.std.proofs.Common.{sym, ◌∙◌, arith}
use Rattle.ht_print.proofs.GroupLemmas.{groups-none}
use Rattle.ht_print.proofs.GroupTexts.{groups-ordered}
use Rattle.ht_print.proofs.groups.ordered_groups.Goals as goal

pub each_stack-init : goal.each_stack-init
each_stack-init c =
    λ tables tell held. c.new-groups.ensures.items ∙ sym (groups-none tables c.args.placed.now.stacks.now)

pub returns : goal.returns
returns c = λ tables tell held.
    c.sort.ensures
    ∙ groups-ordered tables c.args.placed.now.stacks.now c.each_stack.groups.items c.each_stack.k (omega arith)
    (c.each_stack.invariant tables tell held)
