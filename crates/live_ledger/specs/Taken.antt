-- A ledger has taken an event where it has changed by it, stands for the events with it, and holds
-- the same stacks and infos.
use Rattle.std.specs.Prelude.{◌≡◌, ◌+◌, ◌≤◌, IsTrue, List, [], ◌∷◌, ◌++◌}
use Rattle.live_ledger.specs.declared.event.Event.{Event}
use Rattle.live_ledger.specs.Changes.{Changes}
use Rattle.live_ledger.specs.Events.{IsTick, is_counted}
use Rattle.live_ledger.specs.LedgerState.{LedgerState}
use Rattle.live_ledger.specs.Sound.{IsSound}
use Rattle.live_ledger.specs.StandsFor.{StandsFor}

-- it has changed by the event, which had no fault, holds the same stacks and infos, and stands for
-- each list of events that it stood for with this one at its end
pub record HasTaken (old new : LedgerState) (event : Event) : Type 0 where
  pub stands : (events : List Event) → StandsFor old events → StandsFor new (events ++ event ∷ [])
  pub changes : Changes old new event
  pub counted : IsTrue (is_counted event) → new.totals.events ≡ old.totals.events + 1
  pub at_most_one_more : new.totals.events ≤ old.totals.events + 1
  pub stacks : new.stacks ≡ old.stacks
  pub infos : new.infos ≡ old.infos
  pub tick : IsTick event → new ≡ old
  pub sound : IsSound new
