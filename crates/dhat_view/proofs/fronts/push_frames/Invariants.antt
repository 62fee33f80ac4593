use Rattle.std.proofs.Common.{◌≡◌, ◌<◌, length, take}
use Rattle.dhat_view.specs.Numbers.{LastGains, numbers_at}
use Rattle.dhat_view.proofs.fronts.push_frames.Given as goal

abbrev pub invariant-each_frame : goal.invariant-each_frame
invariant-each_frame l = record {
  begun : 0 < length l.shape;
  count : length l.shape ≡ length l.initial.shape;
  gained : LastGains l.initial.shape (numbers_at l.table (take l.place l.frames)) l.shape;
}
