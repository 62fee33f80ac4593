use Rattle.std.proofs.Common.{◌≡◌, take}
use Rattle.ms_print.specs.Sums.{greatest_sum}
use Rattle.ms_print.proofs.plot.greatest_sum.Given as goal

abbrev pub invariant-each_snap : goal.invariant-each_snap
invariant-each_snap l = l.greatest ≡ greatest_sum (take l.place l.snaps)
