use Rattle.massif_sample.proofs.Growing.{stands-grown}
use Rattle.massif_sample.proofs.laws.sampling_goes_on.Goals as goal

pub returns : goal.returns
returns c =
    λ before after grown flags samples names events stands.
    stands-grown flags samples names before after events grown stands
