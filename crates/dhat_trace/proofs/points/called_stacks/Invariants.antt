-- The stacks so far that allocated are there.
use Rattle.std.proofs.Common.{◌≡◌}
use Rattle.dhat_trace.specs.PointFigures.{figures_of}
use Rattle.dhat_trace.specs.Points.{called, called_with}
use Rattle.dhat_trace.proofs.points.called_stacks.Given as goal

abbrev pub invariant-each_stack : goal.invariant-each_stack
invariant-each_stack l =
    l.stacks.items ≡ called_with (figures_of l.peaks l.lifetimes) (called (figures_of l.peaks l.lifetimes) l.stack)
