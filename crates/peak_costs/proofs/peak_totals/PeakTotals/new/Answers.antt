use Rattle.peak_costs.proofs.PeakLemmas.{peak-none}
use Rattle.peak_costs.proofs.peak_totals.PeakTotals.new.Goals as goal

pub returns-clause-stands : goal.returns-clause-stands
returns-clause-stands c =
    rw c.new-2.ensures (record { ledger = c.new.ensures.stands; peak = peak-none.peak; total = peak-none.total_is })
