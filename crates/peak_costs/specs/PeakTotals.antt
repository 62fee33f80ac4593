-- Totals with their peak stand for a list of events where the ledger's totals, the moment and the
-- total are the list's.
use Rattle.std.specs.Prelude.{◌≡◌, ℕ, ◌+◌, ◌≤◌, List}
use Rattle.live_ledger.specs.declared.event.Event.{Event}
use Rattle.live_ledger.specs.LedgerState.{LedgerState}
use Rattle.live_ledger.specs.StandsFor.{HasTotals}
use Rattle.live_ledger.specs.TotalsState.{IsKept, TotalsState, ledger_of}
use Rattle.peak_costs.specs.declared.mark.Mark.{Mark}
use Rattle.peak_costs.specs.Peak.{IsPeak, total_after}

-- the ledger without the figures of stacks, the peak's total, and its moment
pub record PeakTotalsState : Type 0 where
  pub ledger : LedgerState
  pub total : ℕ
  pub moment : ℕ

-- the ledger's totals are those of the events, the moment is their peak, and the total is what is live then
pub record StandsFor (state : PeakTotalsState) (events : List Event) : Type 0 where
  pub ledger : HasTotals state.ledger events
  pub peak : IsPeak state.moment events
  pub total : state.total ≡ total_after state.moment events

-- one more stack
abbrev pub with_stack : PeakTotalsState → PeakTotalsState
with_stack state = record state
    { ledger = record state.ledger { stacks = state.ledger.stacks + 1 } }

-- the state that contracts see
abbrev pub state_of : TotalsState → Mark → PeakTotalsState
state_of ledger mark = record {
  ledger = ledger_of ledger;
  total = mark.total;
  moment = mark.moment;
}

-- there are no more peaks than events, and no more is live than at the peak
pub record HasMark (ledger : TotalsState) (mark : Mark) : Type 0 where
  pub kept : IsKept ledger
  pub counter_within : mark.counter ≤ (ledger_of ledger).totals.events + 1
  pub live_within : (ledger_of ledger).totals.live ≤ mark.total
