-- A snapshot that is kept after an offer is that offer with its load, or one that was kept before,
-- with its load; a cull keeps some of them, each with its load.
use Rattle.std.specs.Prelude.{◌≡◌, ◌≢◌, ◌⊎◌, ℕ, List, slice_get, EachIndex, SomeIndex, Some}
use Rattle.std.specs.Option.{option_map}
use Rattle.massif_cull.specs.declared.snapshot.Kind.{Kind}
use Rattle.massif_cull.specs.declared.snapshot.Kind.TheVariants as kind
use Rattle.massif_cull.specs.declared.snapshot.SnapEntry.{SnapEntry}
use Rattle.massif_cull.specs.declared.snapshot.Offer.{Offer}
use Rattle.massif_cull.specs.declared.snapshot.Taken.{Taken}
use Rattle.massif_cull.specs.declared.snapshot.Taken.TheVariants.{No, Normal, Detailed, Peak}
use Rattle.massif_cull.specs.Entries.{end_peak}
use Rattle.massif_cull.specs.Step.{entry_of}

-- the kind of the entry of an offer that is taken
abbrev pub kind_of : Taken → Kind
kind_of No = kind.Normal
kind_of Normal = kind.Normal
kind_of Detailed = kind.Detailed
kind_of Peak = kind.Peak

-- the snapshot at the place was held, with its load; where it was the peak it may have become normal
abbrev pub WasHeld : {T : Type 0} → List SnapEntry → List T → List SnapEntry → List T → ℕ → Type 0
WasHeld earlier earlier_loads entries loads k =
    SomeIndex earlier (λ j.
    ((slice_get entries k ≡ slice_get earlier j)
    ⊎ (slice_get entries k ≡ option_map end_peak (slice_get earlier j)))
    × (slice_get loads k ≡ slice_get earlier_loads j))

-- the snapshot at the place is that of the offer, with its load
abbrev pub IsOffered : {T : Type 0} → Offer → T → Taken → List SnapEntry → List T → ℕ → Type 0
IsOffered offer load taken entries loads k =
    (taken ≢ No) × (slice_get entries k ≡ Some (entry_of offer (kind_of taken)))
    × (slice_get loads k ≡ Some load)

-- each snapshot was held or is that of the offer
pub record ComeFrom {T : Type 0} (earlier : List SnapEntry) (earlier_loads : List T) (offer : Offer)
    (load : T) (taken : Taken) (entries : List SnapEntry) (loads : List T) : Type 0 where
  pub each : EachIndex entries
      (λ k. WasHeld earlier earlier_loads entries loads k
      ⊎ IsOffered offer load taken entries loads k)
