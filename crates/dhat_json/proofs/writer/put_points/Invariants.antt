-- The points so far are written.
use Rattle.std.proofs.Common.{◌++◌, take}
use Rattle.dhat_json.specs.declared.profile.Dhat.{Dhat}
use Rattle.dhat_json.specs.Begun.{HasBegun, with_points}
use Rattle.dhat_json.proofs.writer.put_points.Given as goal

abbrev pub invariant-loop-point : goal.invariant-loop-point
invariant-loop-point l =
    (dhat : Dhat) → HasBegun l.fn.out dhat → HasBegun l.out (with_points dhat (dhat.pps ++ take l.point-index l.points))
