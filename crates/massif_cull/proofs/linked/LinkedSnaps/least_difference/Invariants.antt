use Rattle.std.proofs.Common.{◌≡◌, ◌+◌, ◌≤◌, ◌^◌}
use Rattle.std.specs.Prelude.{slice_index}
use Rattle.massif_cull.specs.Entries.{times}
use Rattle.massif_cull.specs.SnapsState.{IsNumberedSnap}
use Rattle.massif_cull.proofs.Differences.{least_of_first}
use Rattle.massif_cull.proofs.linked.LinkedSnaps.least_difference.Given as goal

abbrev pub invariant-spots : goal.invariant-spots
invariant-spots g l = record {
  snap_at : IsNumberedSnap l.self l.snap_at;
  index : l.snap_at.index + 1 ≡ l.counter;
  time : l.time ≡ slice_index (times l.self.entries) l.snap_at.index;
  least_is : l.least ≡ least_of_first l.self.entries l.counter;
  most : l.least ≤ 2 ^ 62;
}
