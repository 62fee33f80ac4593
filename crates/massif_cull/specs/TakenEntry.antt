-- What becomes of snapshots by one more entry with its load, for private clauses.
use Rattle.std.specs.Prelude.{◌≡◌, ◌<◌, ◌≤◌, ◌+◌, List, [], ◌∷◌, ◌++◌, length, map}
use Rattle.massif_cull.specs.declared.snapshot.SnapEntry.{SnapEntry}
use Rattle.massif_cull.specs.Among.{AreAmong}
use Rattle.massif_cull.specs.ArrayState.{ArrayState, AreSound}
use Rattle.massif_cull.specs.Entries.{end_peak, last_time}
use Rattle.massif_cull.specs.Kept.{Settings, Kept}
use Rattle.massif_cull.specs.Keys.{GapsState}
use Rattle.massif_cull.specs.Loads.{loads_bounded}
use Rattle.massif_cull.specs.SnapsState.{SnapsState}
use Rattle.massif_cull.specs.StandsFor.{held_of}
use Rattle.massif_cull.specs.Step.{bounded, entries_bounded}

-- the entry has room behind the snapshots, and they are in order with it
pub record CanAppend {T : Type 0} (snaps : SnapsState T) (gaps : GapsState)
    (entry : SnapEntry) : Type 0 where
  pub max : 10 ≤ snaps.max
  pub keys : length gaps.keys ≡ snaps.max
  pub below_max : length snaps.entries < snaps.max
  pub loads_beside : length snaps.loads ≡ length snaps.entries
  pub sound : AreSound (snaps.entries ++ entry ∷ [])

-- the entry stands behind the snapshots with its load, and they are culled where they reach the maximum
pub record Appends {T : Type 0} (old new : SnapsState T) (entry : SnapEntry)
    (load : T) : Type 0 where
  pub max : new.max ≡ old.max
  pub entries : new.entries ≡ entries_bounded old.max (old.entries ++ entry ∷ [])
  pub loads : new.loads
      ≡ loads_bounded old.max (old.entries ++ entry ∷ []) (old.loads ++ load ∷ [])
  pub last : last_time new.entries ≡ entry.time
  pub not_empty : 0 < length new.entries
  pub below_max : length new.entries < new.max
  pub loads_beside : length new.loads ≡ length new.entries
  pub sound : AreSound new.entries
  pub among : AreAmong (old.entries ++ entry ∷ []) (old.loads ++ load ∷ []) new.entries new.loads

-- what is kept with one more normal entry, before a cull
abbrev pub with_normal : Kept → SnapEntry → Kept
with_normal kept entry = record kept
    { entries = kept.entries ++ entry ∷ []; normals = kept.normals + 1 }

-- what is kept with a new peak, before a cull
abbrev pub with_peak : Kept → SnapEntry → Kept
with_peak kept entry = record kept
    { entries = map end_peak kept.entries ++ entry ∷ []; last_peak = entry.total }

-- what is held with one more normal entry, after a cull
abbrev pub held_with_normal : Settings → Kept → SnapEntry → Kept
held_with_normal settings kept entry
    = held_of settings (bounded settings (with_normal kept entry))

-- of these entries, of which the last is new, and their loads the array has what a cull leaves where they reach the
-- maximum
pub record TakesEntry {T : Type 0} (old new : ArrayState T) (entry : SnapEntry)
    (entries : List SnapEntry) (loads : List T) : Type 0 where
  pub settings : new.settings ≡ old.settings
  pub loads_left : new.loads ≡ loads_bounded old.settings.max entries loads
  pub among : AreAmong entries loads new.kept.entries new.loads
  pub last : last_time new.kept.entries ≡ entry.time
  pub not_empty : 0 < length new.kept.entries
  pub below_max : length new.kept.entries < new.settings.max
