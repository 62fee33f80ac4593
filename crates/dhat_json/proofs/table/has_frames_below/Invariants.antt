use Rattle.std.proofs.Common.{All, ◌<◌, drop}
use Rattle.dhat_json.proofs.table.has_frames_below.Given as goal

abbrev pub invariant-loop-frame : goal.invariant-loop-frame
invariant-loop-frame l =
    All (λ frame. frame < l.frames) (drop l.frame-index l.list) → All (λ frame. frame < l.frames) l.list
