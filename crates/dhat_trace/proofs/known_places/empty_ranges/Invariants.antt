-- The ranges so far are empty.
use Rattle.std.proofs.Common.{◌≡◌, ◌≤◌, length}
use Rattle.std.specs.Prelude.{All, vec_capacity}
use Rattle.dhat_trace.proofs.known_places.empty_ranges.Given as goal

abbrev pub invariant-each_range : goal.invariant-each_range
invariant-each_range l = record {
  count : length l.ranges.items ≡ l.counter;
  room : l.count ≤ vec_capacity l.ranges;
  empty : All (λ range. range ≡ record { start = 0; end = 0 }) l.ranges.items;
}
