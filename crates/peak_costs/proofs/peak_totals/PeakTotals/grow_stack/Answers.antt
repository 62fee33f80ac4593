use Rattle.peak_costs.proofs.TotalsLemmas.{totals-kept}
use Rattle.peak_costs.proofs.peak_totals.PeakTotals.grow_stack.Goals as goal

pub returns-clause-stands : goal.returns-clause-stands
returns-clause-stands c =
    rw (← c.self.view_is)
    (λ events stands. totals-kept _ _ c.self.inside.mark events (c.grow_stack.ensures.stands events) stands)
