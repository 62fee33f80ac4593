use Rattle.std.proofs.Common.{◌≡◌, ◌-◌, ◌≤◌, length}
use Rattle.massif_cull.specs.SnapsState.{IsNumberedSnap}
use Rattle.massif_cull.proofs.Keying.{AreNumbered}
use Rattle.massif_cull.proofs.linked.LinkedSnaps.note.Given as goal

abbrev pub invariant-walk : goal.invariant-walk
invariant-walk g l = record {
  snap_at : IsNumberedSnap l.self l.snap_at;
  inside : l.snap_at.index ≤ l.last;
  keys : length l.gaps.keys ≡ l.self.max;
  numbered : AreNumbered l.self.places l.self.entries l.snap_at.index l.gaps.keys;
}

abbrev pub decreases-walk : goal.decreases-walk
decreases-walk g l = l.last - l.snap_at.index
