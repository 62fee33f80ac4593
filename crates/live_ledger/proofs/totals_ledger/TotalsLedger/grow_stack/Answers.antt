use Rattle.live_ledger.proofs.Consistency.{kept-stack}
use Rattle.live_ledger.proofs.Stands.{totals-stack}
use Rattle.live_ledger.proofs.totals_ledger.TotalsLedger.grow_stack.Goals as goal

pub invariant_of-self : goal.invariant_of-self
invariant_of-self c = kept-stack _ _ _ c.self.invariant (rw (← c.self.view_is) at c.requires)

pub returns-clause-stands : goal.returns-clause-stands
returns-clause-stands c = rw (← c.self.view_is) (λ events stands. totals-stack _ events stands)

pub returns-clause-sound : goal.returns-clause-sound
returns-clause-sound c = kept-stack _ _ _ c.self.invariant (rw (← c.self.view_is) at c.requires)
