-- A snapshot with a tree is due where the peak before a counted free is taken, or where the normal
-- snapshot behind a counted event is detailed.
use Rattle.std.specs.Prelude.{◌≡◌, ◌⊎◌, ℕ, ◌+◌, Bool, true, false, List, [], ◌∷◌, ◌++◌, if◌then◌else◌}
use Rattle.live_ledger.specs.declared.event.Event.{Event}
use Rattle.live_ledger.specs.Events.{event_count, is_free}
use Rattle.massif_cull.specs.declared.snapshot.Offer.{Offer}
use Rattle.massif_cull.specs.declared.snapshot.Taken.{Taken}
use Rattle.massif_cull.specs.declared.snapshot.Taken.TheVariants.{Detailed, Peak}
use Rattle.massif_cull.specs.KeptOf.{kept_of}
use Rattle.massif_cull.specs.TakenAs.{taken_as}
use Rattle.massif_sample.specs.declared.options.MassifOptions.{MassifOptions}
use Rattle.massif_sample.specs.Counted.{counts}
use Rattle.massif_sample.specs.Offers.{offer_at, offers, peak_before}
use Rattle.massif_sample.specs.Options.{settings_of}

-- an offer after these is taken as this
pub record IsTakenAs (options : MassifOptions) (earlier : List Offer) (offer : Offer)
    (taken : Taken) : Type 0 where
  pub taken_is : taken_as (settings_of options) (kept_of (settings_of options) earlier) offer
      ≡ taken

-- what a snapshot with a tree is taken as
abbrev pub with_tree : Bool → Taken
with_tree as_peak = if as_peak then Peak else Detailed

-- before a counted free the peak is taken
pub record IsPeakDue (options : MassifOptions) (ignored : ℕ → Bool) (events : List Event)
    (event : Event) : Type 0 where
  pub counted : counts ignored event ≡ true
  pub free : is_free event ≡ true
  pub taken : IsTakenAs options (offers options ignored events)
      (offer_at options ignored events true (event_count events)) Peak

-- behind a counted event a detailed snapshot is taken
pub record IsDetailedDue (options : MassifOptions) (ignored : ℕ → Bool) (events : List Event)
    (event : Event) : Type 0 where
  pub counted : counts ignored event ≡ true
  pub taken :
      IsTakenAs options (offers options ignored events
      ++ peak_before options ignored events event (event_count events))
      (offer_at options ignored (events ++ event ∷ []) false (event_count events + 1)) Detailed

-- one of both
abbrev pub IsDue : MassifOptions → (ℕ → Bool) → List Event → Event → Type 0
IsDue options ignored events event = IsPeakDue options ignored events event
    ⊎ IsDetailedDue options ignored events event
