use Rattle.stack_trees.specs.StackTexts.{stack_texts}
use Rattle.ht_trace.specs.declared.frame.Style.TheVariants.{Plain}
use Rattle.ht_print.specs.declared.entry.Entry.{Entry}
use Rattle.ht_print.specs.ReportLines.{stack_lines}
use Rattle.ht_print.proofs.ReportLemmas.{AreWritten}
use Rattle.ht_print.proofs.report_lines.put_stacks.Given as goal

-- the lines so far
abbrev pub invariant-each_stack : goal.invariant-each_stack
invariant-each_stack l =
    AreWritten l.initial.out.items l.out.items
    (λ (entry : Entry). stack_lines l.scale (stack_texts Plain l.layout.tables.now entry.stack) entry)
    l.shown l.stack-index
