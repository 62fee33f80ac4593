use Rattle.std.proofs.Common.{◌≡◌, ◌+◌, ◌≤◌, length, take}
use Rattle.std.specs.Prelude.{vec_capacity}
use Rattle.massif_cull.specs.SnapsState.{IsNumberedSnap}
use Rattle.massif_cull.proofs.linked.LinkedSnaps.entries_into.Given as goal

abbrev pub invariant-others : goal.invariant-others
invariant-others g l = record {
  snap_at : IsNumberedSnap l.self l.snap_at;
  index : l.snap_at.index + 1 ≡ l.counter;
  items : l.out.items ≡ take l.counter l.self.entries;
  room : length l.self.entries ≤ vec_capacity l.out;
}
