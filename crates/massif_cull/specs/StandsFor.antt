-- An array stands for offers where it holds what is kept of them, of the normal offers that were
-- taken the remainder alone; contracts see beside it the load of each entry.
use Rattle.std.specs.Prelude.{◌≡◌, ◌%◌, List, [], ◌∷◌, ◌++◌}
use Rattle.massif_cull.specs.declared.snapshot.Offer.{Offer}
use Rattle.massif_cull.specs.declared.snapshot.Taken.{Taken}
use Rattle.massif_cull.specs.Kept.{Settings, Kept}
use Rattle.massif_cull.specs.KeptOf.{kept_of}
use Rattle.massif_cull.specs.TakenAs.{taken_as}
use Rattle.massif_cull.specs.ArrayState.{ArrayState}

-- what an array holds of what is kept: all of it, but of the number of normal offers taken only the remainder,
-- which says when the next detailed one is due
abbrev pub held_of : Settings → Kept → Kept
held_of settings kept = record kept { normals = kept.normals % settings.detailed_freq }

-- the array holds what is kept of the list of offers
pub record StandsFor {T : Type 0} (state : ArrayState T) (offers : List Offer) : Type 0 where
  pub kept_is : state.kept ≡ held_of state.settings (kept_of state.settings offers)

-- whatever offers the one stands for, the other stands for these and one more
abbrev pub StandsForMore : {T : Type 0} → ArrayState T → ArrayState T → Offer → Type 0
StandsForMore old new offer = (offers : List Offer) → StandsFor old offers
    → StandsFor new (offers ++ offer ∷ [])

-- the answer is as what the offer is taken behind whatever offers the array stands for
abbrev pub IsTakenBehind : {T : Type 0} → ArrayState T → Offer → Taken → Type 0
IsTakenBehind state offer taken = (offers : List Offer) → StandsFor state offers
    → taken ≡ taken_as state.settings (kept_of state.settings offers) offer
