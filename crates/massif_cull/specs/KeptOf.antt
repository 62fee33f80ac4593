-- What is kept of a list of offers.
use Rattle.std.specs.Prelude.{List, fold}
use Rattle.massif_cull.specs.declared.snapshot.Offer.{Offer}
use Rattle.massif_cull.specs.Kept.{Settings, Kept, nothing_kept}
use Rattle.massif_cull.specs.Step.{step}

-- what is kept of a list of offers
unfoldable pub kept_of : Settings → List Offer → Kept
kept_of settings offers = fold (step settings) nothing_kept offers
