use Rattle.std.proofs.Common.{rules}
use Rattle.massif_sample.specs.Sampled.{description}
use Rattle.massif_sample.proofs.profile.description.Goals as goal

pub returns : goal.returns
unfolding description
returns c = search rules
