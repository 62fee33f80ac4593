use Rattle.std.proofs.Common.{◌≡◌, ℕ, true, false, List, length, Some, ap, sym, ◌∙◌, subst}
use Rattle.order_check.specs.CheckState.{CheckState}
use Rattle.order_check.specs.Following.{are_done}
use Rattle.order_check.proofs.StepLemmas.{done-end, open-end}
use Rattle.order_check.proofs.WholeLemmas.{done-is}
use Rattle.order_check.proofs.order_check.OrderCheck.end.Goals as goal

pub returns-then-not-is_complete : goal.returns-then-not-is_complete
returns-then-not-is_complete c =
    let is = done-is _ _ _ c.order-order.ensures.under c.is_complete.ensures.0 c.is_complete.ensures.1 in
    record {
      events = λ lines has.
          open-end c.args.self.now lines c.args.ended has
          (subst (λ (s : CheckState). are_done 0 s.job.scripts s.order ≡ false) c.self.view_is
          (sym is ∙ c.if-not-is_complete.true));
    }

pub returns : goal.returns
returns c =
    let is = done-is _ _ _ c.order-order.ensures.under c.is_complete.ensures.0 c.is_complete.ensures.1 in
    record {
      events = λ lines has.
          ap (λ (entries : List ℕ). Some (length entries))
          (c.order-order.ensures.order ∙ ap (λ (s : CheckState). s.order) c.self.view_is)
          ∙ done-end c.args.self.now lines c.args.ended has c.if-not-ended.false
          (sym c.is_compared.ensures ∙ c.if-not-is_compared.false)
          (subst (λ (s : CheckState). are_done 0 s.job.scripts s.order ≡ true) c.self.view_is
          (sym is ∙ c.if-not-is_complete.false));
    }
