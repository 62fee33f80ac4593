-- Which snapshots a list of entries and its loads come from.
use Rattle.std.specs.Prelude.{◌≡◌, List, slice_get, EachIndex, SomeIndex}
use Rattle.massif_cull.specs.declared.snapshot.SnapEntry.{SnapEntry}

-- each entry stands with its load somewhere in the earlier lists
pub record AreAmong {T : Type 0} (earlier : List SnapEntry) (earlier_loads : List T)
    (entries : List SnapEntry) (loads : List T) : Type 0 where
  pub each : EachIndex entries
      (λ k. SomeIndex earlier
      (λ j. (slice_get entries k ≡ slice_get earlier j)
      × (slice_get loads k ≡ slice_get earlier_loads j)))
