use Rattle.std.proofs.Common.{◌≡◌, ℕ, ◌+◌, ◌<◌, length, take, get_or, None}
use Rattle.ms_print.specs.Bars.{bar_in}
use Rattle.ms_print.proofs.bars.bars_of.Given as goal

abbrev pub invariant-each_snap : goal.invariant-each_snap
invariant-each_snap l = record {
  count : length l.bars.items ≡ l.plot.width;
  each : (k : ℕ) → k < l.plot.width → get_or l.bars.items k None ≡ bar_in l.plot (take l.place l.snaps) (k + 1);
}
