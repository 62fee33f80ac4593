use Rattle.std.proofs.Common.{◌≡◌, ℕ, ◌-◌, ◌++◌, Bool, List, length, sym, ap, ◌∙◌, arith}
use Rattle.std.specs.Prelude.{sum}
use Rattle.std.proofs.lemmas.Result.{on_ok_weaker}
use Rattle.hp_num.proofs.Laws.{extends_trans}
use Rattle.ht_print.specs.declared.scale.Unit.{Unit}
use Rattle.ht_print.specs.Layouts.{section_body, section_lines}
use Rattle.ht_print.specs.ReportText.{suppressed_figures, suppressed_line, unsuppressed}
use Rattle.ht_print.specs.Sections.{unit_of}
use Rattle.ht_print.specs.Suppressed.{suppressed_stacks}
use Rattle.ht_print.proofs.FlameLemmas.{appended-more}
use Rattle.ht_print.proofs.LeakLemmas.{as-many, parts-sum, unsuppressed-count}
use Rattle.ht_print.proofs.ReportParts.{body-parted, body-whole}
use Rattle.ht_print.proofs.section.put_body.Goals as goal

pub returns-then-not-leaves_out-clause-appended : goal.returns-then-not-leaves_out-clause-appended
returns-then-not-leaves_out-clause-appended c =
    let layout = c.args.layout.now in
    let figures : List ℕ = c.args.figures.now in
    let out : List ℕ = c.args.out.now.items in
    on_ok_weaker c.put_figures.result
    (λ added. added
    ∙ ap (λ (unit : Unit). out ++ section_lines layout unit figures) c.unit.ensures
    ∙ ap (λ (bytes : List ℕ). out ++ bytes)
    (sym (body-whole layout.options layout.tables.now c.args.section figures
    (sym c.leaves_out.ensures ∙ c.if-not-leaves_out.true))))
    c.put_figures.ensures.appended

pub unsuppressed-requires-clause-as_many : goal.unsuppressed-requires-clause-as_many
unsuppressed-requires-clause-as_many c =
    as-many c.args.layout.now.tables.now c.args.suppressed.now c.args.figures.now c.requires.suppressed
    c.requires.figures.as_many

pub put_figures-requires-2-clause-figures : goal.put_figures-requires-2-clause-figures
put_figures-requires-2-clause-figures c =
    let all = c.requires.figures in
    let suppressed : List Bool = c.args.suppressed.now in
    let figures : List ℕ = c.args.figures.now in
    let same = as-many c.args.layout.now.tables.now suppressed figures c.requires.suppressed all.as_many in
    let are = c.deref.ensures.value ∙ c.in_ok-kept.ensures.figures in
    let count = ap (λ (fs : List ℕ). length fs) are ∙ unsuppressed-count suppressed figures same in
    let parts = parts-sum suppressed figures same in
    let kept = ap sum are in
    let few = all.few in
    let bound = all.bound in
    record {
      as_many = count ∙ all.as_many;
      few = omega (arith, count, few);
      bound = omega (arith, parts, kept, bound);
    }

pub sum_of-requires-2 : goal.sum_of-requires-2
sum_of-requires-2 c =
    let all = c.requires.figures in
    let same =
    as-many c.args.layout.now.tables.now c.args.suppressed.now c.args.figures.now c.requires.suppressed all.as_many in
    let parts = parts-sum c.args.suppressed.now c.args.figures.now same in
    let kept = ap sum (c.deref-2.ensures.value ∙ c.in_ok-kept.ensures.figures) in
    let bound = all.bound in
    omega (arith, parts, kept, bound)

pub overflow_sub-sum_of : goal.overflow_sub-sum_of
overflow_sub-sum_of c =
    let same =
    as-many c.args.layout.now.tables.now c.args.suppressed.now c.args.figures.now c.requires.suppressed
    c.requires.figures.as_many in
    let parts = parts-sum c.args.suppressed.now c.args.figures.now same in
    let kept = ap sum (c.deref-2.ensures.value ∙ c.in_ok-kept.ensures.figures) in
    let all = c.sum_of.ensures in
    let some = c.sum_of-2.ensures in
    omega (arith, parts, kept, all, some)

pub returns-clause-appended : goal.returns-clause-appended
returns-clause-appended c =
    let layout = c.args.layout.now in
    let tables = layout.tables.now in
    let out : List ℕ = c.args.out.now.items in
    let figures : List ℕ = c.args.figures.now in
    let suppressed : List Bool = c.args.suppressed.now in
    let are = c.requires.suppressed in
    let same = as-many tables suppressed figures are c.requires.figures.as_many in
    let parts = parts-sum suppressed figures same in
    let kept = ap sum (c.deref-2.ensures.value ∙ c.in_ok-kept.ensures.figures) in
    let all = c.sum_of.ensures in
    let some = c.sum_of-2.ensures in
    let hidden : c.sum_of.result - c.sum_of-2.result ≡ sum (suppressed_figures suppressed figures) =
    omega (arith, parts, kept, all, some) in
    on_ok_weaker c.put_suppressed.result
    (λ added. appended-more out c.put_figures-2.new.out.items c.put_suppressed.new.out.items
    (section_lines layout (unit_of c.args.section) (unsuppressed (suppressed_stacks tables) figures))
    (suppressed_line (sum (suppressed_figures (suppressed_stacks tables) figures)))
    (section_body layout c.args.section figures)
    (c.in_ok-put_figures.ensures.appended
    ∙ ap (λ (unit : Unit). out ++ section_lines layout unit c.deref.result.now) c.unit-2.ensures
    ∙ ap (λ (fs : List ℕ). out ++ section_lines layout (unit_of c.args.section) fs)
    (c.deref.ensures.value ∙ c.in_ok-kept.ensures.figures ∙ ap (λ (bs : List Bool). unsuppressed bs figures) are))
    (added
    ∙ ap (λ (n : ℕ). c.put_figures-2.new.out.items ++ suppressed_line n)
    (hidden ∙ ap (λ (bs : List Bool). sum (suppressed_figures bs figures)) are))
    (body-parted layout.options tables c.args.section figures
    (sym c.leaves_out.ensures ∙ c.if-not-leaves_out.false)))
    c.put_suppressed.ensures.appended

pub returns-clause-kept : goal.returns-clause-kept
returns-clause-kept c =
    extends_trans c.args.out.now.items c.put_figures-2.new.out.items c.put_suppressed.new.out.items
    c.put_figures-2.ensures.kept c.put_suppressed.ensures.kept
