use Rattle.std.proofs.Common.{◌≡◌, ◌*◌, ◌^◌, ◌≤◌}
use Rattle.record_book.specs.Figures.{greatest_below, own_peak, sum_below}
use Rattle.record_book.proofs.summary.Summary.of.Given as goal

-- the peaks of the threads so far
abbrev pub invariant-loop-thread : goal.invariant-loop-thread
invariant-loop-thread l = record {
  low_is : l.low ≡ greatest_below (own_peak l.job.scripts) l.thread;
  high_is : l.high ≡ sum_below (own_peak l.job.scripts) l.thread;
  few : l.high ≤ 2 ^ 56 * l.thread;
}
