use Rattle.std.proofs.Common.{sym}
use Rattle.live_ledger.specs.declared.event.Event.TheVariants.{Alloc, Free}
use Rattle.live_ledger.proofs.TakenLemmas.{infos-after, totals-after}
use Rattle.live_ledger.proofs.totals_ledger.TotalsLedger.apply.Goals as goal

pub returns-in-Alloc-clause-stands : goal.returns-in-Alloc-clause-stands
returns-in-Alloc-clause-stands c = λ events stands.
    rw (c.in-Alloc.is, c.allocate.ensures.after)
    (rw c.in-Alloc.is at (totals-after c.args.self.now events c.args.event c.check.ensures.sound c.requires.held
    (sym (c.in_ok-check.ensures.fault events stands)) stands))

pub returns-in-Free-clause-stands : goal.returns-in-Free-clause-stands
returns-in-Free-clause-stands c = λ events stands.
    rw (c.in-Free.is, c.free.ensures.after)
    (rw c.in-Free.is at (totals-after c.args.self.now events c.args.event c.check.ensures.sound c.requires.held
    (sym (c.in_ok-check.ensures.fault events stands)) stands))

pub returns-in-Tick-clause-stands : goal.returns-in-Tick-clause-stands
returns-in-Tick-clause-stands c = λ events stands.
    rw c.in-Tick.is
    (rw c.in-Tick.is at (totals-after c.args.self.now events c.args.event c.check.ensures.sound c.requires.held
    (sym (c.in_ok-check.ensures.fault events stands)) stands))

pub returns-in-Alloc-clause-infos : goal.returns-in-Alloc-clause-infos
returns-in-Alloc-clause-infos c =
    rw c.allocate.ensures.after
    (infos-after c.args.self.now (Alloc c.in-Alloc.info c.in-Alloc.stack c.in-Alloc.size)
    (rw c.in-Alloc.is at c.requires.held))

pub returns-in-Free-clause-infos : goal.returns-in-Free-clause-infos
returns-in-Free-clause-infos c =
    rw c.free.ensures.after
    (infos-after c.args.self.now (Free c.in-Free.info c.in-Free.stack c.in-Free.size)
    (rw c.in-Free.is at c.requires.held))
