-- What contracts see of linked snapshots, and where one stands among them.
use Rattle.std.specs.Prelude.{◌≡◌, ℕ, List, length, slice_get, Some}
use Rattle.massif_cull.specs.declared.snapshot.SnapEntry.{SnapEntry}
use Rattle.massif_cull.specs.declared.snapshot.NumberedSnap.{NumberedSnap}
use Rattle.massif_cull.specs.Linked.{AreBelow, AreDifferent}

-- how many places there are, those that are taken in their order, and the entry and the load that stand at each
pub record SnapsState (T : Type 0) : Type 0 where
  pub max : ℕ
  pub places : List ℕ
  pub entries : List SnapEntry
  pub loads : List T

-- the snap_at is one of a place that is taken
abbrev pub IsNumberedSnap : {T : Type 0} → SnapsState T → NumberedSnap → Type 0
IsNumberedSnap state snap_at = slice_get state.places snap_at.index ≡ Some snap_at.place

-- there is an entry for each place that is taken, and the places are different ones below the maximum
pub record ArePlaced {T : Type 0} (state : SnapsState T) : Type 0 where
  pub beside : length state.places ≡ length state.entries
  pub different : AreDifferent state.places
  pub below : AreBelow state.max state.places
