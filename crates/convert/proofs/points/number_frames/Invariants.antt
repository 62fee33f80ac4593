use Rattle.std.proofs.Common.{◌≡◌, map, take}
use Rattle.std.specs.Prelude.{slice_index}
use Rattle.convert.proofs.points.number_frames.Given as goal

abbrev pub invariant-each_frame : goal.invariant-each_frame
invariant-each_frame l = l.list.items ≡ map (λ frame. slice_index l.numbers frame) (take l.place l.frames)
