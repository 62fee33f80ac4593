use Rattle.std.proofs.Common.{arith}
use Rattle.std.specs.Prelude.{codes}
use Rattle.std.proofs.lemmas.Result.{on_ok_weaker}
use Rattle.stack_trees.specs.StackTexts.{stack_texts}
use Rattle.ht_trace.specs.declared.frame.Style.TheVariants.{Plain}
use Rattle.ht_print.specs.declared.entry.Entry.{Entry}
use Rattle.ht_print.specs.ReportLines.{stack_lines, unmerged_lines}
use Rattle.ht_print.proofs.ReportLemmas.{shown-all}
use Rattle.ht_print.proofs.report_lines.put_stacks.Goals as goal

pub returns-clause-appended : goal.returns-clause-appended
unfolding unmerged_lines
returns-clause-appended c =
    on_ok_weaker c.put_left.result
    (λ added. shown-all
    (λ (entry : Entry). stack_lines c.args.scale (stack_texts Plain c.args.layout.now.tables.now entry.stack) entry)
    c.args.out.now.items c.each_stack.out.items c.put_left.new.out.items (codes "more stacks: ") c.args.stacks.now _
    c.each_stack.stack-index c.args.layout.now.options.limit _
    c.each_stack.invariant.written (omega arith) c.split_shown-left.ensures.shown c.split_shown-left.ensures.left added)
    c.put_left.ensures.appended
