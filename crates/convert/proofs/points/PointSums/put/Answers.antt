use Rattle.convert.specs.Folded.{folded_sums, folded_text}
use Rattle.convert.proofs.FoldedLaws.{are-folded}
use Rattle.convert.proofs.points.PointSums.put.Goals as goal

pub returns-in-Ok-clause-sums : goal.returns-in-Ok-clause-sums
unfolding folded_text
returns-in-Ok-clause-sums c = λ items are. (folded_sums items, are-folded items, c.in-Ok.ensures.appended items are)
