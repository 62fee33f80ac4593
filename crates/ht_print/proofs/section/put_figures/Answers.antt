use Rattle.std.proofs.Common.{ℕ, ◌++◌, List, length, subst, sym, ap, ◌∙◌, arith}
use Rattle.std.specs.Prelude.{All, sum_by}
use Rattle.std.proofs.lemmas.List.Sums.{get_or-le-sum_by}
use Rattle.std.proofs.lemmas.Result.{on_ok_weaker}
use Rattle.ht_print.specs.declared.entry.Entry.{Entry}
use Rattle.ht_print.specs.IsEntry.{IsEntry}
use Rattle.ht_print.specs.ReportOrder.{ordered_stacks}
use Rattle.ht_print.specs.ReportText.{section_lines, stacks_text}
use Rattle.ht_print.proofs.EntryLists.{stacks-all, stacks-sum}
use Rattle.ht_print.proofs.section.put_figures.Goals as goal

pub put_entries-requires-clause-stacks : goal.put_entries-requires-clause-stacks
put_entries-requires-clause-stacks c =
    let total = c.sum_of.ensures in
    let count = c.requires.figures.as_many in
    let bound = c.requires.figures.bound in
    let are = c.deref.ensures.value ∙ c.in_ok-stacks.ensures.stacks in
    let few = c.in_ok-stacks.ensures.few in
    let held = ap (λ (es : List Entry). length es) c.deref.ensures.value in
    let part = stacks-sum c.args.figures.now in
    let same = ap (λ (es : List Entry). sum_by (λ (e : Entry). e.figure) es) are in
    record {
      entries =
          subst (λ (es : List Entry). All (IsEntry c.args.layout.now.tables.now c.sum_of.result) es) (sym are)
          (stacks-all (IsEntry c.args.layout.now.tables.now c.sum_of.result) c.args.figures.now
          (λ n within. let one = get_or-le-sum_by (λ (k : ℕ). k) c.args.figures.now n 0
          within in record { held = omega (arith, within, count); within = omega (arith, one, total) }));
      few = omega (arith, few, held);
      within = omega (arith, total, part, same);
      bound = omega (arith, total, bound);
    }

pub returns-clause-appended : goal.returns-clause-appended
unfolding section_lines
returns-clause-appended c =
    on_ok_weaker c.put_entries.result
    (λ added. added
    ∙ ap (λ (es : List Entry). c.args.out.now.items
    ++ stacks_text c.args.layout.now.options c.args.layout.now.tables.now
    (record { unit = c.args.unit; total = c.sum_of.result }) es)
    (c.deref.ensures.value
    ∙ c.in_ok-stacks.ensures.stacks)
    ∙ ap (λ (total : ℕ). c.args.out.now.items
    ++ stacks_text c.args.layout.now.options c.args.layout.now.tables.now (record { unit = c.args.unit; total = total })
    (ordered_stacks c.args.figures.now))
    c.sum_of.ensures)
    c.put_entries.ensures.appended
