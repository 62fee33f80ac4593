use Rattle.std.proofs.Common.{refl}
use Rattle.live_ledger.proofs.Consistency.{consistent-info}
use Rattle.live_ledger.proofs.Stands.{stands-same}
use Rattle.live_ledger.proofs.Views.{sound}
use Rattle.live_ledger.proofs.ledger.Ledger.grow_info.Goals as goal

pub invariant_of-self-2 : goal.invariant_of-self-2
invariant_of-self-2 c =
    let kept = rw c.in_ok-number.ensures.grown at c.grow_info.ensures.sound in
    rw c.in_ok-number.ensures.grown (consistent-info _ _ _ _ _ c.self.invariant kept refl refl)

pub returns-clause-stands : goal.returns-clause-stands
returns-clause-stands c =
    rw (← c.self.view_is)
    (λ events stands. stands-same _ _ events (c.grow_info.ensures.stands events stands.whole) (λ stack. refl) stands)

pub returns-clause-sound : goal.returns-clause-sound
returns-clause-sound c =
    let kept = rw c.in_ok-number.ensures.grown at c.grow_info.ensures.sound in
    rw c.in_ok-number.ensures.grown (sound _ _ (consistent-info _ _ _ _ _ c.self.invariant kept refl refl))

pub returns-in_err-number-clause-sound : goal.returns-in_err-number-clause-sound
returns-in_err-number-clause-sound c = rw c.in_err-number.ensures.unchanged (sound _ _ c.self.invariant)
