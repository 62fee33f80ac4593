use Rattle.std.proofs.Common.{◌≡◌, ◌+◌, ◌-◌, ◌<◌, ◌≤◌, length}
use Rattle.std.specs.Prelude.{slice_index}
use Rattle.massif_cull.specs.Entries.{times}
use Rattle.massif_cull.specs.Left.{AreLeft}
use Rattle.massif_cull.specs.SnapsState.{IsNumberedSnap}
use Rattle.massif_cull.proofs.Equals.{ArePassed}
use Rattle.massif_cull.proofs.linked.LinkedSnaps.remove_equals.Given as goal

abbrev pub invariant-walk : goal.invariant-walk
invariant-walk g l = record {
  left : AreLeft l.left l.initial.self.entries l.initial.self.loads l.self.entries l.self.loads;
  max : l.self.max ≡ l.initial.self.max;
  snap_at : IsNumberedSnap l.self l.snap_at;
  some : 0 < l.snap_at.index;
  last : l.last + 1 ≡ length l.self.entries;
  inside : l.snap_at.index ≤ l.last;
  passed : ArePassed l.self.entries l.snap_at.index;
  time : l.time ≡ slice_index (times l.self.entries) (l.snap_at.index - 1);
}

abbrev pub decreases-walk : goal.decreases-walk
decreases-walk g l = l.last - l.snap_at.index
