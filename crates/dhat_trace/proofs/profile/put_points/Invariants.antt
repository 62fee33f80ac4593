-- The points so far are put.
use Rattle.std.proofs.Common.{[], take}
use Rattle.dhat_json.specs.declared.profile.Dhat.{Dhat}
use Rattle.dhat_json.specs.Begun.{with_points}
use Rattle.dhat_json.specs.PointWriter.{HasWritten}
use Rattle.dhat_trace.specs.Points.{points_in}
use Rattle.dhat_trace.proofs.profile.put_points.Given as goal

abbrev pub invariant-each_stack : goal.invariant-each_stack
invariant-each_stack l = (head : Dhat) → HasWritten l.initial.writer (with_points head [])
    → HasWritten l.writer (with_points head (points_in (take l.called-index l.stacks) l.backtraces))
