use Rattle.std.proofs.Common.{rules}
use Rattle.convert.specs.Converted.{converted}
use Rattle.convert.proofs.converted.profile_of.Goals as goal

pub returns : goal.returns
unfolding converted
returns c = search rules
