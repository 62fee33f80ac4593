use Rattle.live_ledger.proofs.Consistency.{consistent-stack}
use Rattle.live_ledger.proofs.Stands.{stands-same}
use Rattle.live_ledger.proofs.Views.{figures-push, sound}
use Rattle.live_ledger.proofs.ledger.Ledger.grow_stack.Goals as goal

pub invariant_of-self-2 : goal.invariant_of-self-2
invariant_of-self-2 c =
    let kept = rw c.grow_stack.ensures.grown at c.grow_stack.ensures.sound in
    rw (c.grow_stack.ensures.grown, c.in_ok-push.ensures.items, c.new.ensures)
    (consistent-stack _ _ _ _ c.self.invariant kept)

pub returns-clause-stands : goal.returns-clause-stands
returns-clause-stands c =
    rw (← c.self.view_is, c.in_ok-push.ensures.items, c.new.ensures)
    (λ events stands. stands-same _ _ events (c.grow_stack.ensures.stands events stands.whole)
    (λ stack. figures-push _ c.self.inside.whole c.grow_stack.new.self stack) stands)

pub returns-in_err-push-clause-sound : goal.returns-in_err-push-clause-sound
returns-in_err-push-clause-sound c = rw c.in_err-push.ensures.items (sound _ _ c.self.invariant)

pub returns-clause-sound : goal.returns-clause-sound
returns-clause-sound c =
    let kept = rw c.grow_stack.ensures.grown at c.grow_stack.ensures.sound in
    rw (c.grow_stack.ensures.grown, c.in_ok-push.ensures.items, c.new.ensures)
    (sound _ _ (consistent-stack _ _ _ _ c.self.invariant kept))
