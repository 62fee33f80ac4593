use Rattle.dhat_view.specs.ViewText.{view_text}
use Rattle.dhat_view.proofs.ViewSums.{text-sums}
use Rattle.dhat_view.proofs.parts.ViewParts.put.Goals as goal

pub returns-in-Ok-clause-sums : goal.returns-in-Ok-clause-sums
returns-in-Ok-clause-sums c = λ options dhat are. (
  view_text options.key options.threshold options.depth dhat,
  text-sums options.key options.threshold options.depth dhat,
  c.in-Ok.ensures.appended options dhat are,
)
