-- Which keys places have while snapshots are culled, and which snapshot goes next, for private
-- clauses.
use Rattle.std.specs.Prelude.{◌≡◌, ℕ, ◌+◌, ◌<◌, true, if◌then◌else◌, List, length, remove, slice_get, Some}
use Rattle.massif_cull.specs.declared.gaps.Key.{Key}
use Rattle.massif_cull.specs.declared.snapshot.NumberedSnap.{NumberedSnap}
use Rattle.massif_cull.specs.declared.snapshot.SnapEntry.{SnapEntry}
use Rattle.massif_cull.specs.Culling.{may_go, gap_at, removed_place}
use Rattle.massif_cull.specs.Keys.{GapsState, never, key_at}
use Rattle.massif_cull.specs.Linked.{AreBelow, AreDifferent, IsOutside}
use Rattle.massif_cull.specs.SnapsState.{SnapsState}

-- the difference by which the entry at the index goes, and that of no choice where it may not go
abbrev pub gap_to_go : List SnapEntry → ℕ → ℕ
gap_to_go entries k = if may_go entries k then gap_at entries k else never

-- the key of the snapshot that stands there: its gap, and how many stand before it
abbrev pub key_of : List SnapEntry → NumberedSnap → Key
key_of entries snap_at = record {
  gap = gap_to_go entries snap_at.index;
  number = snap_at.index;
  place = snap_at.place;
}

-- each place of an entry has the entry's gap and a number that rises with the entries, and no other
-- place is to be chosen
pub record AreKeyed (places : List ℕ) (entries : List SnapEntry) (keys : List Key) : Type 0 where
  pub beside : length places ≡ length entries
  pub different : AreDifferent places
  pub below : AreBelow (length keys) places
  pub own : (k place : ℕ) → slice_get places k ≡ Some place → (key_at keys place).place ≡ place
  pub gaps : (k place : ℕ) → slice_get places k ≡ Some place
      → (key_at keys place).gap ≡ gap_to_go entries k
  pub order : (j k other place : ℕ) → j < k → slice_get places j ≡ Some other
      → slice_get places k ≡ Some place
      → (key_at keys other).number < (key_at keys place).number
  pub others : (place : ℕ) → IsOutside place places → (key_at keys place).gap ≡ never

-- the keys are those of the snapshots, and it is known which one comes first
pub record AreGapsOf {T : Type 0} (snaps : SnapsState T) (gaps : GapsState) : Type 0 where
  pub keyed : AreKeyed snaps.places snaps.entries gaps.keys
  pub ready : gaps.ready ≡ true

-- the entry that goes next is removed, with its load
pub record RemovesNext {T : Type 0} (old new : SnapsState T) : Type 0 where
  pub index : ℕ
  pub max : new.max ≡ old.max
  pub goes : removed_place old.entries ≡ Some index
  pub inside : index + 1 < length old.entries
  pub entries : new.entries ≡ remove old.entries index
  pub loads : new.loads ≡ remove old.loads index
