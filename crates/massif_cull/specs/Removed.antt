-- What one snapshot holds among linked ones, and what is left once it is removed.
use Rattle.std.specs.Prelude.{◌≡◌, ℕ, remove, slice_get, Some}
use Rattle.massif_cull.specs.declared.linked.Held.{Held}
use Rattle.massif_cull.specs.SnapsState.{SnapsState}

-- the entry and the load are those of the index
pub record HoldsAt {T : Type 0} (state : SnapsState T) (index : ℕ) (held : Held T) : Type 0 where
  pub entry : slice_get state.entries index ≡ Some held.entry
  pub load : slice_get state.loads index ≡ Some held.load

-- the snapshot of the index is gone with its load and its place, and the others are what they were
pub record Removes {T : Type 0} (old new : SnapsState T) (index : ℕ) : Type 0 where
  pub max : new.max ≡ old.max
  pub places : new.places ≡ remove old.places index
  pub entries : new.entries ≡ remove old.entries index
  pub loads : new.loads ≡ remove old.loads index
