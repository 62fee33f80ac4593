-- A ledger of totals stands for a list of events where it has the list's totals.
use Rattle.std.specs.Prelude.{List}
use Rattle.live_ledger.specs.declared.event.Event.{Event}
use Rattle.live_ledger.specs.StandsFor.{HasTotals}
use Rattle.live_ledger.specs.TotalsState.{TotalsState, ledger_of}

-- its totals, each info's blocks and the last event are those of the list of events
abbrev pub StandsForTotals : TotalsState → List Event → Type 0
StandsForTotals state events = HasTotals (ledger_of state) events
