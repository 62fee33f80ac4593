use Rattle.std.proofs.Common.{ℕ, ◌==◌, List, length, ap, ◌∙◌}
use Rattle.order_check.specs.CheckState.{CheckState}
use Rattle.order_check.specs.Following.{is_empty}
use Rattle.order_check.proofs.StepLemmas.{compared-is}
use Rattle.order_check.proofs.order_check.OrderCheck.is_compared.Goals as goal

pub returns : goal.returns
returns c =
    let check = c.self.inside in
    ap (λ (text : List ℕ). check.compared == length text) c.text.ensures.text
    ∙ compared-is check.stream.text check.compared c.self.invariant
    ∙ ap (λ (s : CheckState). is_empty s.coming) c.self.view_is
