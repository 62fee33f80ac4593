use Rattle.ht_print.proofs.ReportLemmas.{AreWritten}
use Rattle.ht_print.specs.ReportLines.{group_at}
use Rattle.ht_print.proofs.section.put_groups.Given as goal

-- the lines so far
abbrev pub invariant-each_group : goal.invariant-each_group
invariant-each_group l =
    AreWritten l.initial.out.items l.out.items
    (group_at l.layout.tables.now l.scale l.layout.options.sub_limit l.placed.stacks.now) l.shown l.group-index
