use Rattle.std.proofs.Common.{sym, arith}
use Rattle.std.proofs.lemmas.Bool.Decides.{nat_tests}
use Rattle.ms_print.specs.BarSteps.{IsPlotted}
use Rattle.ms_print.proofs.BarLemmas.{bar-next, bar-none}
use Rattle.ms_print.proofs.Lists.{held-by}
use Rattle.ms_print.proofs.bars.bar_in.Goals as goal
use Rattle.ms_print.proofs.bars.bar_in.Goals.{then-column-x, else-column-x}

pub each_snap-init : goal.each_snap-init
each_snap-init c = sym (bar-none c.args.plot c.args.x)

pub column-requires-clause-within : goal.column-requires-clause-within
column-requires-clause-within c =
    let plotted =
    held-by (IsPlotted c.args.plot) c.args.snaps.now c.each_snap.place c.at-snap.result.now c.at-snap.ensures.item
    c.requires.plotted in
    plotted.in_time

pub bar_for-requires : goal.bar_for-requires
bar_for-requires c =
    record {
      plotted = held-by (IsPlotted c.args.plot) c.args.snaps.now c.each_snap.place c.at-snap.result.now
          c.at-snap.ensures.item c.requires.plotted;
    }

pub each_snap-preserved : goal.each_snap-preserved
each_snap-preserved c =
    let next =
    bar-next c.args.plot c.args.snaps.now c.each_snap.place c.at-snap.result.now c.args.x c.at-snap.ensures.item in
    elim c.if-column-x.branch [
      | then-column-x w ↦ let here = w.if-column-x.true in grind (arith, nat_tests)
      | else-column-x w ↦ let there = w.if-column-x.false in grind (arith, nat_tests)
    ]
