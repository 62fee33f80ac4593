-- What is left of a list within a cull, for private clauses.
use Rattle.std.specs.Prelude.{◌≡◌, ℕ, ◌+◌, ◌/◌, List, length}
use Rattle.massif_cull.specs.declared.snapshot.SnapEntry.{SnapEntry}
use Rattle.massif_cull.specs.Among.{AreAmong}
use Rattle.massif_cull.specs.ArrayState.{AreSound}
use Rattle.massif_cull.specs.Culling.{cull, cull_times}
use Rattle.massif_cull.specs.Entries.{last_time}
use Rattle.massif_cull.specs.Loads.{loads_cull, loads_cull_times}
use Rattle.massif_cull.specs.SnapsState.{SnapsState}

-- after some removals of a cull, `rest` of them are still to come
pub record AreLeft {T : Type 0} (rest : ℕ) (earlier : List SnapEntry) (earlier_loads : List T)
    (entries : List SnapEntry) (loads : List T) : Type 0 where
  pub entries_left : cull_times rest entries ≡ cull earlier
  pub loads_left : loads_cull_times rest entries loads ≡ loads_cull earlier earlier_loads
  pub count : length entries + length earlier / 2 ≡ length earlier + rest
  pub beside : length loads ≡ length entries
  pub sound : AreSound entries
  pub last : last_time entries ≡ last_time earlier
  pub among : AreAmong earlier earlier_loads entries loads

-- half of the snapshots are removed, as a cull removes them
abbrev pub IsHalved : {T : Type 0} → SnapsState T → SnapsState T → Type 0
IsHalved old new = AreLeft 0 old.entries old.loads new.entries new.loads
