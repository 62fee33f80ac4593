use Rattle.stack_trees.specs.StackTexts.{stack_texts}
use Rattle.ht_trace.specs.declared.frame.Style.TheVariants.{Plain}
use Rattle.ht_print.specs.declared.entry.Entry.{Entry}
use Rattle.ht_print.specs.ReportLines.{member_lines}
use Rattle.ht_print.proofs.ReportLemmas.{AreWritten}
use Rattle.ht_print.proofs.report_lines.put_members.Given as goal

-- the lines so far
abbrev pub invariant-each_member : goal.invariant-each_member
invariant-each_member l =
    AreWritten l.initial.out.items l.out.items
    (λ (entry : Entry). member_lines l.scale (stack_texts Plain l.layout.tables.now entry.stack) entry)
    l.shown l.member-index
