use Rattle.live_ledger.proofs.Views.{sound}
use Rattle.live_ledger.proofs.ledger.Ledger.stacks.Goals as goal

pub returns-clause-sound : goal.returns-clause-sound
returns-clause-sound c = rw (← c.self.view_is) (sound _ _ c.self.invariant)
