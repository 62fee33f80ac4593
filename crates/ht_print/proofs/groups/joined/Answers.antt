use Rattle.std.proofs.Common.{arith}
use Rattle.ht_print.specs.declared.entry.Entry.{Entry}
use Rattle.ht_print.proofs.GroupLemmas.{joined-next}
use Rattle.ht_print.proofs.groups.joined.Goals as goal

-- the entry of no stack
abbrev no-entry : Entry
no-entry = record { figure = 0; stack = 0 }

pub each_other-preserved : goal.each_other-preserved
each_other-preserved c =
    joined-next c.args.stacks.now c.in-Some.others.now c.in-Some.first.now c.each_other.entry no-entry
    c.each_other.stack-index c.min.result
    c.in-Some.ensures.cases.0 (omega arith) c.each_other.invariant c.min.ensures
