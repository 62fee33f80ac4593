use Rattle.std.proofs.Common.{arith}
use Rattle.peak_costs.proofs.Keeping.{kept-new}
use Rattle.peak_costs.proofs.PeakLemmas.{stands-new}
use Rattle.peak_costs.proofs.peaks.Peaks.new.Goals as goal

pub invariant_of-result : goal.invariant_of-result
invariant_of-result c =
    rw (
      c.in_ok-push.ensures.pushed,
      c.in_ok-push-2.ensures.pushed,
      c.in_ok-push-3.ensures.pushed,
      c.new-saved.ensures,
      c.new-blocks.ensures,
      c.new-stamps.ensures,
      c.new-2.ensures,
    )
    (record {
      kept =
          kept-new c.in_ok-ledger.ledger c.in_ok-ledger.ensures.sound c.in_ok-ledger.ensures.stacks
          c.in_ok-ledger.ensures.stands.whole.figures.live_is;
      live_within = omega (arith, c.in_ok-ledger.ensures.stands.whole.figures.live_is);
    })

pub returns-clause-stands : goal.returns-clause-stands
returns-clause-stands c =
    rw (
      c.in_ok-push.ensures.pushed,
      c.in_ok-push-2.ensures.pushed,
      c.in_ok-push-3.ensures.pushed,
      c.new-saved.ensures,
      c.new-blocks.ensures,
      c.new-stamps.ensures,
      c.new-2.ensures,
    )
    (stands-new c.in_ok-ledger.ledger c.in_ok-ledger.ensures.sound c.in_ok-ledger.ensures.stands)
