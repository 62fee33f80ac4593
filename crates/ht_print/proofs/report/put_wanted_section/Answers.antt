use Rattle.std.proofs.Common.{◌≡◌, ◌≤◌, ℕ, ◌^◌, ◌++◌, List, [], true, length, sum, subst, sym, ap, ◌∙◌, arith}
use Rattle.std.proofs.lemmas.Bool.{cond-false, cond-true}
use Rattle.std.proofs.lemmas.Result.{on_ok_weaker}
use Rattle.ht_print.specs.declared.flame.FlameCost.{FlameCost}
use Rattle.ht_print.specs.FlameCosts.{flame_costs}
use Rattle.ht_print.specs.Layouts.{section_text}
use Rattle.ht_print.specs.Sections.{is_wanted}
use Rattle.ht_print.proofs.FlameLemmas.{appended-none}
use Rattle.ht_print.proofs.ReportParts.{section-places}
use Rattle.ht_print.proofs.report.put_wanted_section.Goals as goal

pub returns-then-not-is_wanted-clause-appended : goal.returns-then-not-is_wanted-clause-appended
returns-then-not-is_wanted-clause-appended c =
    appended-none c.args.out.now.items _
    (cond-false (is_wanted c.args.layout.now.options c.args.section) _ []
    (sym c.is_wanted.ensures ∙ c.if-not-is_wanted.true))

pub put_section-requires-clause-places : goal.put_section-requires-clause-places
put_section-requires-clause-places c =
    section-places c.args.layout.now c.args.section (sym c.is_wanted.ensures ∙ c.if-not-is_wanted.false)
    c.requires.places

pub put_section-requires-clause-figures : goal.put_section-requires-clause-figures
put_section-requires-clause-figures c =
    let same = ap (λ (figures : List ℕ). length figures) c.deref.ensures.value in
    let few = c.in_ok-figures.ensures.few in
    record {
      as_many = same ∙ c.in_ok-figures.ensures.count ∙ c.requires.beside.stacks;
      few = omega (arith, few, same);
      bound = subst (λ (figures : List ℕ). sum figures ≤ 2 ^ 62) (sym c.deref.ensures.value)
          c.in_ok-figures.ensures.bound;
    }

pub returns-clause-appended : goal.returns-clause-appended
returns-clause-appended c =
    let layout = c.args.layout.now in
    let section = c.args.section in
    let out : List ℕ = c.args.out.now.items in
    let wanted : is_wanted layout.options section ≡ true = sym c.is_wanted.ensures ∙ c.if-not-is_wanted.false in
    on_ok_weaker c.put_section.result
    (λ added. added
    ∙ ap (λ (figures : List ℕ). out ++ section_text layout section figures)
    (c.deref.ensures.value ∙ c.in_ok-figures.ensures.costs
    ∙ ap (λ (cost : FlameCost). flame_costs cost c.args.peaks.now) c.cost.ensures)
    ∙ ap (λ (bytes : List ℕ). out ++ bytes) (sym (cond-true (is_wanted layout.options section) _ [] wanted)))
    c.put_section.ensures.appended
