-- By an offer an array keeps what one more step leaves, so that it stands for one offer more.
use Rattle.std.specs.Prelude.{◌≡◌, ◌<◌, ◌≤◌, length}
use Rattle.massif_cull.specs.declared.snapshot.Offer.{Offer}
use Rattle.massif_cull.specs.declared.snapshot.Taken.{Taken}
use Rattle.massif_cull.specs.ArrayState.{ArrayState}
use Rattle.massif_cull.specs.Entries.{last_time}
use Rattle.massif_cull.specs.Loads.{loads_step}
use Rattle.massif_cull.specs.Origins.{ComeFrom}
use Rattle.massif_cull.specs.StandsFor.{StandsForMore, held_of}
use Rattle.massif_cull.specs.Step.{step}

-- the array is one offer farther, whatever it stands for
pub record TakesOffer {T : Type 0} (old new : ArrayState T) (offer : Offer) (load : T)
    (taken : Taken) : Type 0 where
  pub stands : StandsForMore old new offer
  pub settings : new.settings ≡ old.settings
  pub kept : new.kept ≡ held_of old.settings (step old.settings old.kept offer)
  pub loads : new.loads ≡ loads_step old.settings old.kept offer old.loads load
  -- each snapshot was held before, with its load, or is that of the offer
  pub origins : ComeFrom old.kept.entries old.loads offer load taken new.kept.entries new.loads
  pub last : last_time new.kept.entries ≤ offer.time
  pub below_max : length new.kept.entries < new.settings.max
