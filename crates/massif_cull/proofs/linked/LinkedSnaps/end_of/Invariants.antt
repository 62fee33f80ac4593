use Rattle.std.proofs.Common.{◌≡◌, ◌-◌, ◌<◌, ◌≤◌, length}
use Rattle.massif_cull.specs.Ends.{count_may_go}
use Rattle.massif_cull.specs.SnapsState.{IsNumberedSnap}
use Rattle.massif_cull.proofs.linked.LinkedSnaps.end_of.Given as goal

abbrev pub invariant-back : goal.invariant-back
invariant-back g l = record {
  snap_at : IsNumberedSnap l.self l.snap_at;
  some : 0 < l.snap_at.index;
  inside : l.snap_at.index < length l.self.entries;
  most : l.found ≤ l.count;
  found : count_may_go l.self.entries l.snap_at.index (length l.self.entries - 1 - l.snap_at.index) ≡ l.found;
}

abbrev pub decreases-back : goal.decreases-back
decreases-back g l = l.snap_at.index
