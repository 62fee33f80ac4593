use Rattle.std.proofs.Common.{◌≡◌, ◌++◌, ◌∷◌, [], rules}
use Rattle.massif_cull.specs.declared.snapshot.Offer.{Offer}
use Rattle.massif_cull.specs.declared.snapshot.Taken.TheVariants.{No}
use Rattle.massif_sample.specs.StandsFor.{IsSampling}
use Rattle.massif_sample.proofs.Offers.{offered-now}
use Rattle.massif_sample.proofs.offering.sample.Goals as goal

pub returns-then-taken-eq0-clause-sampling : goal.returns-then-taken-eq0-clause-sampling
returns-then-taken-eq0-clause-sampling g c =
    let none : c.judge-taken.result ≡ No = search rules in
    λ names events made texts said was.
    offered-now
    (λ (o : Offer). IsSampling c.args.samples.now names c.args.stacks.now.tables.now events (made ++ o ∷ []))
    c.args.as_peak was (c.judge-taken.ensures.passed none names c.args.stacks.now.tables.now events made was)
