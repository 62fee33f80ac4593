-- The snapshots that are offered, and those that are kept of them. The offers are the normal one at
-- place 0 and, for each counted event, before a free the peak one at the place before it, and the
-- normal one at the place behind it.
use Rattle.std.specs.Prelude.{ℕ, ◌+◌, Bool, true, false, List, [], ◌∷◌, ◌++◌, flat_map, slice_get, if◌then◌else◌}
use Rattle.std.specs.List.{range_with_len}
use Rattle.std.specs.Option.{option_map_or}
use Rattle.live_ledger.specs.declared.event.Event.{Event}
use Rattle.live_ledger.specs.Events.{counted, event_count, is_free}
use Rattle.massif_cull.specs.declared.snapshot.Offer.{Offer}
use Rattle.massif_cull.specs.Kept.{Kept}
use Rattle.massif_cull.specs.KeptOf.{kept_of}
use Rattle.massif_sample.specs.declared.options.MassifOptions.{MassifOptions}
use Rattle.massif_sample.specs.Counted.{counts}
use Rattle.massif_sample.specs.Options.{settings_of}
use Rattle.massif_sample.specs.Places.{gross_at, time_at}

-- the offer at a place, as a peak or not
abbrev pub offer_at : MassifOptions → (ℕ → Bool) → List Event → Bool → ℕ → Offer
offer_at options ignored events as_peak k =
    record {
      place = k;
      time = time_at options ignored events k;
      total = gross_at options ignored events k;
      peak = as_peak;
    }

-- the peak offer before a free
abbrev pub peak_before : MassifOptions → (ℕ → Bool) → List Event → Event → ℕ → List Offer
peak_before options ignored events event k = if is_free event
    then offer_at options ignored events true k ∷ [] else []

-- the offers of the event between place k and the next one: where it is counted, that of the peak
-- before a free, and the normal one behind it
abbrev pub offers_of_event : MassifOptions → (ℕ → Bool) → List Event → Event → ℕ → List Offer
offers_of_event options ignored events event k =
    if counts ignored event
    then peak_before options ignored events event k ++ offer_at options ignored events false (k + 1)
    ∷ []
    else []

-- those between place k and the next one
abbrev pub offers_behind : MassifOptions → (ℕ → Bool) → List Event → ℕ → List Offer
offers_behind options ignored events k =
    option_map_or (λ event. offers_of_event options ignored events event k)
    (slice_get (counted events) k) []

-- the normal offer at place 0, and those of each event
unfoldable pub offers : MassifOptions → (ℕ → Bool) → List Event → List Offer
offers options ignored events =
    offer_at options ignored events false 0
    ∷ flat_map (offers_behind options ignored events) (range_with_len 0 (event_count events))

-- what is kept of them
abbrev pub kept : MassifOptions → (ℕ → Bool) → List Event → Kept
kept options ignored events = kept_of (settings_of options) (offers options ignored events)
