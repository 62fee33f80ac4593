use Rattle.std.proofs.Common.{ℕ, List, [], sym, subst}
use Rattle.dhat_view.specs.Numbers.{AreNumbers}
use Rattle.dhat_view.proofs.Numbering.{no-numbers}
use Rattle.dhat_view.proofs.texts.ShownTexts.new.Goals as goal

pub returns-clause-numbers : goal.returns-clause-numbers
returns-clause-numbers c =
    subst (λ (ns : List ℕ). AreNumbers c.new.result ns []) (sym c.new-2.ensures.items) (no-numbers c.new.result)
