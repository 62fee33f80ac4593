use Rattle.std.proofs.Common.{◌≡◌, ◌-◌, ◌<◌, ◌≤◌, ℕ}
use Rattle.std.specs.Prelude.{slice_index}
use Rattle.massif_cull.specs.Entries.{times}
use Rattle.massif_cull.specs.Keyed.{gap_to_go}
use Rattle.massif_cull.specs.SnapsState.{IsNumberedSnap}
use Rattle.massif_cull.proofs.linked.LinkedSnaps.are_gaps_above.Given as goal

abbrev pub invariant-spots : goal.invariant-spots
invariant-spots g l = record {
  snap_at : IsNumberedSnap l.self l.snap_at;
  some : 0 < l.snap_at.index;
  most : l.snap_at.index ≤ l.end.index;
  time : l.time ≡ slice_index (times l.self.entries) (l.snap_at.index - 1);
  above : (k : ℕ) → 0 < k → k < l.snap_at.index → l.span < gap_to_go l.self.entries k;
}

abbrev pub decreases-spots : goal.decreases-spots
decreases-spots g l = l.end.index - l.snap_at.index
