-- What linked snapshots hold, by their fields. Linked snapshots are what stands at the places, in
-- their order.
use Rattle.std.specs.Prelude.{◌≡◌, ℕ, ◌≤◌, List, length, map, Option, None, IsSome}
use Rattle.std.specs.List.{slice_index_or, filter_map}
use Rattle.massif_cull.specs.declared.linked.Held.{Held}
use Rattle.massif_cull.specs.declared.linked.LinkedSnaps.TheInside.{Inside}
use Rattle.massif_cull.specs.Entries.{end_peak}
use Rattle.massif_cull.specs.Linked.{EachOf, AreBelow, AreDifferent}
use Rattle.massif_cull.specs.SnapsState.{SnapsState}

-- what stands at the place
abbrev pub held_at : {T : Type 0} → List (Option (Held T)) → ℕ → Option (Held T)
held_at slots place = slice_index_or slots place None

-- what stands at the places, in their order
abbrev pub held_in : {T : Type 0} → List (Option (Held T)) → List ℕ → List (Held T)
held_in slots places = filter_map (held_at slots) places

-- how contracts see the fields
abbrev pub snaps_of : {T : Type 0} → Inside T → SnapsState T
snaps_of snaps = record {
  max = snaps.links.max;
  places = snaps.links.places;
  entries = map (λ held. held.entry) (held_in snaps.slots.items snaps.links.places);
  loads = map (λ held. held.load) (held_in snaps.slots.items snaps.links.places);
}

-- what is true of each: there is a slot for each place, and at each place that is taken something stands
pub record AreHeld {T : Type 0} (snaps : Inside T) : Type 0 where
  pub slots : length snaps.slots.items ≡ snaps.links.max
  pub each : EachOf (λ place. IsSome (held_at snaps.slots.items place)) snaps.links.places
  pub different : AreDifferent snaps.links.places
  pub below : AreBelow snaps.links.max snaps.links.places
  pub most : length snaps.links.places ≤ snaps.links.max
  pub max_most : snaps.links.max ≤ 1000

-- the snapshot once a later peak is taken
abbrev pub ended : {T : Type 0} → Held T → Held T
ended held = record held { entry = end_peak held.entry }
