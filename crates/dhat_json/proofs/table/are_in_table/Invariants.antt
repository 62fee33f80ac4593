use Rattle.std.proofs.Common.{All, ◌<◌, drop}
use Rattle.dhat_json.proofs.table.are_in_table.Given as goal

abbrev pub invariant-loop-point : goal.invariant-loop-point
invariant-loop-point l =
    All (λ point. All (λ frame. frame < l.frames) point.fs) (drop l.point-index l.points)
    → All (λ point. All (λ frame. frame < l.frames) point.fs) l.points
