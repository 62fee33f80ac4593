use Rattle.std.proofs.Common.{◌≡◌}
use Rattle.massif_cull.specs.SnapsState.{IsNumberedSnap}
use Rattle.massif_cull.proofs.linked.LinkedSnaps.snap_at.Given as goal

abbrev pub invariant-steps : goal.invariant-steps
invariant-steps g l = record { snap_at : IsNumberedSnap l.self l.snap_at; index : l.snap_at.index ≡ l.counter }
