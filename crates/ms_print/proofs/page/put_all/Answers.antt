use Rattle.std.proofs.Common.{sym, subst}
use Rattle.std.specs.Prelude.{All}
use Rattle.ms_print.specs.declared.plot.Plot.{Plot}
use Rattle.ms_print.specs.BarSteps.{IsPlotted}
use Rattle.ms_print.proofs.SumLemmas.{all-plotted, all-trees}
use Rattle.hp_num.proofs.Laws.{extends_trans}
use Rattle.ms_print.proofs.page.put_all.Goals as goal

pub put_graph-requires-clause-plotted : goal.put_graph-requires-clause-plotted
put_graph-requires-clause-plotted c =
    let writable = c.requires.writable in
    let right = writable.right in
    subst (λ (plot : Plot). All (IsPlotted plot) c.args.profile.now.snaps) (sym c.plot_of-plot.ensures)
    (all-plotted c.args.options.now.x c.args.options.now.y c.args.profile.now.snaps right.snaps writable.snaps)

pub put_table-requires-clause-trees : goal.put_table-requires-clause-trees
put_table-requires-clause-trees c =
    let writable = c.requires.writable in
    let right = writable.right in
    all-trees 0 c.args.profile.now.snaps right.snaps

pub returns-in_err-put_graph-clause-kept : goal.returns-in_err-put_graph-clause-kept
returns-in_err-put_graph-clause-kept c =
    extends_trans c.args.out.now.items c.put_title.new.out.items c.put_graph.new.out.items c.put_title.ensures.kept
    c.put_graph.ensures.kept

pub returns-in_err-put_snapshots-clause-kept : goal.returns-in_err-put_snapshots-clause-kept
returns-in_err-put_snapshots-clause-kept c =
    extends_trans c.args.out.now.items c.put_graph.new.out.items c.put_snapshots.new.out.items
    (extends_trans c.args.out.now.items c.put_title.new.out.items c.put_graph.new.out.items c.put_title.ensures.kept
    c.put_graph.ensures.kept)
    c.put_snapshots.ensures.kept

pub returns-clause-kept : goal.returns-clause-kept
returns-clause-kept c =
    extends_trans c.args.out.now.items c.put_snapshots.new.out.items c.put_table.new.out.items
    (extends_trans c.args.out.now.items c.put_graph.new.out.items c.put_snapshots.new.out.items
    (extends_trans c.args.out.now.items c.put_title.new.out.items c.put_graph.new.out.items c.put_title.ensures.kept
    c.put_graph.ensures.kept)
    c.put_snapshots.ensures.kept)
    c.put_table.ensures.kept
