use Rattle.live_ledger.proofs.Views.{sound}
use Rattle.live_ledger.proofs.ledger.Ledger.totals.Goals as goal

pub returns-clause-figures : goal.returns-clause-figures
returns-clause-figures c = rw (← c.self.view_is) (λ events stands. c.totals.ensures.figures events stands.whole)

pub returns-clause-sound : goal.returns-clause-sound
returns-clause-sound c = rw (← c.self.view_is) (sound _ _ c.self.invariant)
