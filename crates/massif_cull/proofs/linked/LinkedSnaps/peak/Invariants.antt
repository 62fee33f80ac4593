use Rattle.std.proofs.Common.{◌≡◌, ℕ, ◌<◌, false}
use Rattle.massif_cull.specs.Entries.{is_peak_at}
use Rattle.massif_cull.specs.SnapsState.{IsNumberedSnap}
use Rattle.massif_cull.proofs.linked.LinkedSnaps.peak.Given as goal

abbrev pub invariant-back : goal.invariant-back
invariant-back g l = record {
  snap_at : IsNumberedSnap l.self l.snap_at;
  later : (k : ℕ) → l.snap_at.index < k → is_peak_at l.self.entries k ≡ false;
}

abbrev pub decreases-back : goal.decreases-back
decreases-back g l = l.snap_at.index
