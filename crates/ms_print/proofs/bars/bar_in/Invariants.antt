use Rattle.std.proofs.Common.{◌≡◌, take}
use Rattle.ms_print.specs.Bars.{bar_in}
use Rattle.ms_print.proofs.bars.bar_in.Given as goal

abbrev pub invariant-each_snap : goal.invariant-each_snap
invariant-each_snap l = l.bar ≡ bar_in l.plot (take l.place l.snaps) l.x
