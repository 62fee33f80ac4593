use Rattle.std.proofs.Common.{arith}
use Rattle.std.specs.Prelude.{codes}
use Rattle.std.proofs.lemmas.Result.{on_ok_weaker}
use Rattle.stack_trees.specs.StackTexts.{stack_texts}
use Rattle.ht_trace.specs.declared.frame.Style.TheVariants.{Plain}
use Rattle.ht_print.specs.declared.entry.Entry.{Entry}
use Rattle.ht_print.specs.ReportLines.{member_lines, members_lines}
use Rattle.ht_print.proofs.ReportLemmas.{shown-all}
use Rattle.ht_print.proofs.report_lines.put_members.Goals as goal

pub returns-clause-appended : goal.returns-clause-appended
unfolding members_lines
returns-clause-appended c =
    on_ok_weaker c.put_left.result
    (λ added. shown-all
    (λ (entry : Entry). member_lines c.args.scale (stack_texts Plain c.args.layout.now.tables.now entry.stack) entry)
    c.args.out.now.items c.each_member.out.items c.put_left.new.out.items (codes "  more stacks: ") c.args.members.now
    _ c.each_member.member-index c.args.layout.now.options.sub_limit _
    c.each_member.invariant.written (omega arith) c.split_shown-left.ensures.shown c.split_shown-left.ensures.left
    added)
    c.put_left.ensures.appended
