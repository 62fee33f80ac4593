use Rattle.std.proofs.Common.{◌-◌, Option, List, None, Some, sym, ap, ◌∙◌, arith, rules, ◌+◌, get_or}
use Rattle.std.proofs.lemmas.List.{get_or_read_under, get_or-replicate, length-set}
use Rattle.ms_print.specs.declared.bars.Bar.{Bar}
use Rattle.ms_print.specs.BarSteps.{IsPlotted, better}
use Rattle.ms_print.proofs.BarLemmas.{bars-next, bar-none}
use Rattle.ms_print.proofs.Lists.{held-by}
use Rattle.ms_print.proofs.bars.bars_of.Goals as goal

pub each_snap-init : goal.each_snap-init
each_snap-init c = record {
  count = omega (arith, c.in_ok-bars.bars.ok.0, c.in_ok-bars.ensures.len);
  each = λ k small.
      ap (λ (bars : List (Option Bar)). get_or bars k None)
      (c.in_ok-bars.ensures.items_if_clones_equal (λ y clone. search rules))
      ∙ get_or-replicate c.args.plot.width k None None small
      ∙ sym (bar-none c.args.plot (k + 1));
}

pub column-column-requires-clause-within : goal.column-column-requires-clause-within
column-column-requires-clause-within c =
    let plotted =
    held-by (IsPlotted c.args.plot) c.args.snaps.now c.each_snap.place c.at-snap.result.now c.at-snap.ensures.item
    c.requires.plotted in
    plotted.in_time

pub bar_for-requires : goal.bar_for-requires
bar_for-requires c =
    record {
      plotted = held-by (IsPlotted c.args.plot) c.args.snaps.now c.each_snap.place c.at-snap.result.now
          c.at-snap.ensures.item c.requires.plotted;
    }

pub each_snap-preserved : goal.each_snap-preserved
each_snap-preserved c =
    let column = c.column-column.ensures in
    let count = c.each_snap.invariant.count in
    let read =
    get_or_read_under c.each_snap.bars.items (c.column-column.result - 1) c.args.plot.width c.index.result.now None
    c.index.ensures (omega arith) (sym count) in
    record {
      count = length-set c.each_snap.bars.items (c.column-column.result - 1) (Some c.better.result) ∙ count;
      each = λ k small.
          bars-next c.args.plot c.args.snaps.now c.each_snap.place c.at-snap.result.now c.at-snap.ensures.item
          c.each_snap.bars.items c.column-column.result (Some c.better.result)
          column.first column.last column.column count
          (ap (λ (b : Bar). Some b)
          (c.better.ensures ∙ ap (λ (o : Option Bar). better o c.bar_for.result) read
          ∙ ap (λ (b : Bar). better (get_or c.each_snap.bars.items (c.column-column.result - 1) None) b)
          c.bar_for.ensures))
          k (c.each_snap.invariant.each k small);
    }
