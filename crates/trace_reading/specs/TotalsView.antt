-- Totals with their peak, as what follows a trace.
use Rattle.peak_costs.specs.PeakTotals.{PeakTotalsState, StandsFor}
use Rattle.trace_reading.specs.Following.{Following}

-- they stand for the events of which they are the totals, whatever the tables are
abbrev pub totals_view : PeakTotalsState → Following
totals_view totals = record {
  ledger = totals.ledger;
  stands = λ tables. StandsFor totals;
  sound = Unit {0};
}
