-- What becomes of peaks, and of totals with their peak, by an event or one more info.
use Rattle.std.specs.Prelude.{◌≡◌, ℕ, ◌+◌, ◌≤◌, ◌++◌, length, Result, IfOk, OnOk, OnErr}
use Rattle.std.specs.Result.{result_err}
use Rattle.live_ledger.specs.declared.event.Event.{Event}
use Rattle.live_ledger.specs.declared.event.EventFault.{EventFault}
use Rattle.live_ledger.specs.Changes.{Changes}
use Rattle.live_ledger.specs.Faults.{fault_at}
use Rattle.live_ledger.specs.ForEvents.{GoesOnWith, TellsFault}
use Rattle.live_ledger.specs.GrownLedger.{one_info}
use Rattle.live_ledger.specs.LedgerState.{LedgerState}
use Rattle.peak_costs.specs.Peak.{StandsFor}
use Rattle.peak_costs.specs.PeakState.{PeakState}

-- the ledger has the same stacks and infos, and at most one event more
pub record AddsEventAlone (old new : LedgerState) : Type 0 where
  pub at_most_one_more : new.totals.events ≤ old.totals.events + 1
  pub stacks : new.stacks ≡ old.stacks
  pub infos : new.infos ≡ old.infos

-- the event is taken, or its fault is answered and all is as before
pub record TakesEvent (old new : PeakState) (event : Event)
    (result : Result (Unit {0}) EventFault) : Type 0 where
  pub by_figures : result_err result ≡ fault_at old.ledger event
  pub fault : TellsFault (StandsFor old) event result
  pub stands : OnOk result (GoesOnWith event (StandsFor old) (StandsFor new))
  pub changes : OnOk result (Changes old.ledger new.ledger event)
  pub ledger : AddsEventAlone old.ledger new.ledger
  pub unchanged : OnErr result (new ≡ old)

-- the ledger has one more info, under the number that is answered; where memory is wanting, none
pub record AddsInfoAlone {E : Type 0} (old new : LedgerState) (stack size : ℕ)
    (result : Result ℕ E) : Type 0 where
  pub number : IfOk result (λ number. number ≡ length old.infos)
  pub infos : OnOk result (new.infos ≡ old.infos ++ one_info stack size)
  pub stacks : new.stacks ≡ old.stacks
  pub totals : new.totals ≡ old.totals
