-- Peaks, as what follows a trace.
use Rattle.std.specs.Prelude.{◌≡◌, ◌+◌, ◌≤◌, List, [], ◌∷◌, ◌++◌, OnErr, OnOk, Result}
use Rattle.std.specs.Result.{result_err}
use Rattle.live_ledger.specs.declared.event.Event.{Event}
use Rattle.live_ledger.specs.declared.event.EventFault.{EventFault}
use Rattle.live_ledger.specs.Faults.{fault_of}
use Rattle.peak_costs.specs.Peak.{StandsFor}
use Rattle.peak_costs.specs.PeakState.{PeakState}
use Rattle.trace_reading.specs.Following.{Following}

-- they stand for the events of which they are the peaks, whatever the tables are
abbrev pub peaks_view : PeakState → Following
peaks_view peaks = record {
  ledger = peaks.ledger;
  stands = λ tables. StandsFor peaks;
  sound = Unit {0};
}

-- peaks have taken an event
pub record HaveTaken (old new : PeakState) (event : Event) : Type 0 where
  pub stands : (taken : List Event) → StandsFor old taken → StandsFor new (taken ++ event ∷ [])
  pub stacks : new.ledger.stacks ≡ old.ledger.stacks
  pub infos : new.ledger.infos ≡ old.ledger.infos
  pub at_most_one_more : new.ledger.totals.events ≤ old.ledger.totals.events + 1

-- peaks take an event, or stay as they are where this fault is told of it
pub record Take (old new : PeakState) (event : Event) (answer : Result (Unit {0}) EventFault)
    : Type 0 where
  pub fault : (taken : List Event) → StandsFor old taken
      → result_err answer ≡ fault_of taken event
  pub taken : OnOk answer (HaveTaken old new event)
  pub unchanged : OnErr answer (new ≡ old)
