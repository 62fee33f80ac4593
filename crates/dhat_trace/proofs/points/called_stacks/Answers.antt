use Rattle.std.proofs.Common.{sym}
use Rattle.dhat_trace.specs.PointFigures.{figures_of}
use Rattle.dhat_trace.specs.Points.{called}
use Rattle.dhat_trace.proofs.PointLists.{called_with_more}
use Rattle.dhat_trace.proofs.points.called_stacks.Goals as goal

pub each_stack-init : goal.each_stack-init
unfolding called
each_stack-init c = c.new-stacks.ensures.items

pub each_stack-preserved : goal.each_stack-preserved
each_stack-preserved c =
    let figures = figures_of c.args.peaks.now c.args.lifetimes.now in
    called_with_more figures c.each_stack.stack c.each_stack.stacks.items c.add_stack.new.stacks.items
    c.each_stack.invariant
    (c.in_ok-add_stack.ensures figures (sym c.figures_of-figures.ensures))
