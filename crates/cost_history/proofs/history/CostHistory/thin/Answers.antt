use Rattle.std.proofs.Common.{inr, ◌∙◌}
use Rattle.cost_history.proofs.history.CostHistory.thin.Goals as goal

pub returns-clause-tells : goal.returns-clause-tells
returns-clause-tells c =
    rw (← c.self.view_is)
    (λ costs
    tells. record {
      unmarked =
          λ stack place unmarked late. c.thin.ensures.costs place (inr late) stack
          ∙ tells.unmarked stack place unmarked late;
    })
