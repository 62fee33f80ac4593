use Rattle.std.proofs.lemmas.Result.{on_ok_weaker}
use Rattle.live_ledger.proofs.Views.{sound}
use Rattle.live_ledger.proofs.ledger.Ledger.check.Goals as goal

pub returns-clause-fault : goal.returns-clause-fault
returns-clause-fault c = rw (← c.self.view_is) (λ events stands. c.check.ensures.fault events stands.whole)

pub returns-clause-possible : goal.returns-clause-possible
returns-clause-possible c =
    rw (← c.self.view_is)
    (on_ok_weaker c.check.result (λ all events stands. all events stands.whole) c.check.ensures.possible)

pub returns-clause-sound : goal.returns-clause-sound
returns-clause-sound c = rw (← c.self.view_is) (sound _ _ c.self.invariant)
