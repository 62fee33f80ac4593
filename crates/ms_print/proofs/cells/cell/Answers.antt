use Rattle.std.proofs.Common.{sym, subst}
use Rattle.std.specs.Prelude.{All}
use Rattle.ms_print.specs.declared.plot.Plot.{Plot}
use Rattle.ms_print.specs.BarSteps.{IsPlotted}
use Rattle.ms_print.proofs.SumLemmas.{all-plotted}
use Rattle.ms_print.proofs.cells.cell.Goals as goal
use Rattle.ms_print.proofs.cells.cell.Goals.{After-plot_of-plot}

plotted : (c : After-plot_of-plot) → All (IsPlotted c.plot_of-plot.result) c.args.profile.now.snaps
plotted c =
    let writable = c.requires.writable in
    subst (λ (plot : Plot). All (IsPlotted plot) c.args.profile.now.snaps) (sym c.plot_of-plot.ensures)
    (all-plotted c.args.options.now.x c.args.options.now.y c.args.profile.now.snaps writable.right.snaps writable.snaps)

pub bar_in-bar-requires-clause-plotted : goal.bar_in-bar-requires-clause-plotted
bar_in-bar-requires-clause-plotted c = plotted (goal.at.bar_in-bar-requires-clause-plotted c).After-plot_of-plot

pub nearest_bar-nearest-requires-clause-plotted : goal.nearest_bar-nearest-requires-clause-plotted
nearest_bar-nearest-requires-clause-plotted c =
    plotted (goal.at.nearest_bar-nearest-requires-clause-plotted c).After-plot_of-plot
