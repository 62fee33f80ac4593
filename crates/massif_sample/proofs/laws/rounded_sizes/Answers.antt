use Rattle.massif_sample.proofs.Rounding.{rounded-least}
use Rattle.massif_sample.proofs.laws.rounded_sizes.Goals as goal

pub returns : goal.returns
returns c = λ alignment size some. rounded-least alignment size some
