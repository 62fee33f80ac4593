use Rattle.std.proofs.Common.{◌++◌, List, take_all, ap, ◌∙◌, arith}
use Rattle.std.specs.List.{flat_map}
use Rattle.hp_num.proofs.Laws.{extends_trans}
use Rattle.ht_print.specs.declared.sections.Section.{Section}
use Rattle.ht_print.specs.Layouts.{wanted_section}
use Rattle.ht_print.proofs.report.put_sections.Goals as goal

pub returns-in_err-put_wanted_section-clause-kept : goal.returns-in_err-put_wanted_section-clause-kept
returns-in_err-put_wanted_section-clause-kept c =
    extends_trans c.args.out.now.items c.each_section.out.items c.put_wanted_section.new.out.items
    c.each_section.invariant.kept c.put_wanted_section.ensures.kept

pub returns-clause-appended : goal.returns-clause-appended
returns-clause-appended c =
    c.each_section.invariant.written
    ∙ ap (λ (ys : List Section). c.args.out.now.items
    ++ flat_map (wanted_section c.args.layout.now c.args.peaks.now) ys)
    (take_all c.each_section.section-index c.args.sections.now (omega arith))

pub returns-clause-kept : goal.returns-clause-kept
returns-clause-kept c = c.each_section.invariant.kept
