use Rattle.std.proofs.Common.{◌≡◌, ◌+◌, ◌-◌, ◌<◌, ◌≤◌, ℕ, true, length, map}
use Rattle.massif_cull.specs.Entries.{is_peak, is_peak_at}
use Rattle.massif_cull.specs.SnapsState.{IsNumberedSnap}
use Rattle.massif_cull.proofs.EndLemmas.{keep_from}
use Rattle.massif_cull.proofs.linked.LinkedSnaps.remove_end.Given as goal

abbrev pub invariant-end : goal.invariant-end
invariant-end g l = record {
  max : l.self.max ≡ l.fn.self.max;
  snap_at : IsNumberedSnap l.self l.snap_at;
  last : l.last + 1 ≡ length l.self.entries;
  inside : l.snap_at.index ≤ l.last;
  from : l.fn.snap_at.index ≤ l.snap_at.index;
  peaks : (k : ℕ) → l.fn.snap_at.index ≤ k → k < l.snap_at.index → is_peak_at l.self.entries k ≡ true;
  entries : keep_from l.fn.snap_at.index l.self.entries (map is_peak l.self.entries)
      ≡ keep_from l.fn.snap_at.index l.fn.self.entries (map is_peak l.fn.self.entries);
  loads : keep_from l.fn.snap_at.index l.self.loads (map is_peak l.self.entries)
      ≡ keep_from l.fn.snap_at.index l.fn.self.loads (map is_peak l.fn.self.entries);
}

abbrev pub decreases-end : goal.decreases-end
decreases-end g l = l.last - l.snap_at.index
