use Rattle.std.proofs.Common.{◌<◌, ◌^◌, ◌-◌, length}
use Rattle.std.proofs.lemmas.List.{length-map}
use Rattle.dhat_metrics.proofs.LifeLemmas.{lives-more, sound-of, stands-more}
use Rattle.dhat_metrics.proofs.lifetimes.Lifetimes.grow_stack.Goals as goal

pub returns-in_err-push-clause-sound : goal.returns-in_err-push-clause-sound
returns-in_err-push-clause-sound c = rw c.in_err-push.ensures.items (sound-of c.self.inside.events _ c.self.invariant)

pub returns-clause-stands : goal.returns-clause-stands
returns-clause-stands c =
    rw (← c.self.view_is, c.in_ok-push.ensures.items, c.new.ensures)
    (stands-more c.self.inside.events c.self.inside.lives.items)

pub returns-clause-sound : goal.returns-clause-sound
returns-clause-sound c =
    let room : length c.self.inside.lives.items < 2 ^ 32 - 1 = rw (← c.self.view_is, length-map) at c.requires in
    rw (c.in_ok-push.ensures.items, c.new.ensures)
    (sound-of c.self.inside.events _ (lives-more _ _ c.self.invariant room))
