-- What a cull asks for, and what becomes of entries and their loads by it.
use Rattle.std.specs.Prelude.{◌≡◌, ◌+◌, ◌/◌, ◌≤◌, List, length}
use Rattle.massif_cull.specs.declared.snapshot.SnapEntry.{SnapEntry}
use Rattle.massif_cull.specs.Among.{AreAmong}
use Rattle.massif_cull.specs.ArrayState.{AreSound}
use Rattle.massif_cull.specs.Culling.{cull}
use Rattle.massif_cull.specs.Entries.{last_time}
use Rattle.massif_cull.specs.Keys.{GapsState}
use Rattle.massif_cull.specs.Loads.{loads_cull}
use Rattle.massif_cull.specs.SnapsState.{SnapsState}

-- at least 6 snapshots are held, and there is a key for each place
pub record CanCull {T : Type 0} (snaps : SnapsState T) (gaps : GapsState) : Type 0 where
  pub long : 6 ≤ length snaps.entries
  pub sound : AreSound snaps.entries
  pub keys : length gaps.keys ≡ snaps.max

-- half of the earlier entries are removed with their loads, rounded down
pub record AreCulled {T : Type 0} (earlier : List SnapEntry) (earlier_loads : List T)
    (entries : List SnapEntry) (loads : List T) : Type 0 where
  pub entries_left : entries ≡ cull earlier
  pub loads_left : loads ≡ loads_cull earlier earlier_loads
  pub count : length entries + length earlier / 2 ≡ length earlier
  pub loads_beside : length loads ≡ length entries
  pub sound : AreSound entries
  pub last : last_time entries ≡ last_time earlier
  pub among : AreAmong earlier earlier_loads entries loads
