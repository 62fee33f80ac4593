use Rattle.dhat_json.specs.DhatFault.{frame_finding}
use Rattle.dhat_json.specs.ProfileIn.{whole_in}
use Rattle.dhat_json.proofs.ValueLists.{Passed}
use Rattle.dhat_json.proofs.point.read_frames.Given as goal

abbrev pub invariant-loop-frame : goal.invariant-loop-frame
invariant-loop-frame l = Passed (frame_finding l.number l.frames) whole_in l.values l.frame-index l.list
