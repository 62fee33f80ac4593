use Rattle.live_ledger.specs.declared.event.Event.TheVariants.{Alloc}
use Rattle.peak_costs.proofs.TotalsLemmas.{mark-moved, totals-moved}
use Rattle.peak_costs.proofs.peak_totals.PeakTotals.apply.Goals as goal

pub invariant_of-self-in-Alloc : goal.invariant_of-self-in-Alloc
invariant_of-self-in-Alloc c =
    let kept = rw (c.in_ok-apply.ensures.after, c.in-Alloc.is) at c.apply.ensures.sound in
    rw (c.raise.ensures, c.totals-totals.ensures.value, c.in_ok-apply.ensures.after, c.in-Alloc.is)
    (mark-moved c.self.inside.ledger c.self.inside.mark (Alloc c.in-Alloc.info c.in-Alloc.stack c.in-Alloc.size)
    c.self.invariant kept)

pub returns-in-Alloc-clause-stands : goal.returns-in-Alloc-clause-stands
returns-in-Alloc-clause-stands c =
    rw (← c.self.view_is, c.raise.ensures, c.totals-totals.ensures.value, c.in_ok-apply.ensures.after, c.in-Alloc.is)
    (λ events stands. totals-moved _ _ events _ c.self.invariant stands
    (rw (c.in_ok-apply.ensures.after, c.in-Alloc.is) at (c.in_ok-apply.ensures.stands events stands.ledger)))

pub returns-in-Free-clause-stands : goal.returns-in-Free-clause-stands
returns-in-Free-clause-stands c =
    rw (← c.self.view_is, c.in_ok-apply.ensures.after, c.in-Free.is)
    (λ events stands. totals-moved _ _ events _ c.self.invariant stands
    (rw (c.in_ok-apply.ensures.after, c.in-Free.is) at (c.in_ok-apply.ensures.stands events stands.ledger)))

pub returns-in-Tick-clause-stands : goal.returns-in-Tick-clause-stands
returns-in-Tick-clause-stands c =
    rw (← c.self.view_is, c.in_ok-apply.ensures.after, c.in-Tick.is)
    (λ events stands. totals-moved _ _ events _ c.self.invariant stands
    (rw (c.in_ok-apply.ensures.after, c.in-Tick.is) at (c.in_ok-apply.ensures.stands events stands.ledger)))
