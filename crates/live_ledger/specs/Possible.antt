-- A trace can have a list of events where some infos give each event its stack and size, and no
-- event has a fault after those before it.
use Rattle.std.specs.Prelude.{◌≡◌, ℕ, List, take, None, Some, slice_get}
use Rattle.live_ledger.specs.declared.event.Event.{Event}
use Rattle.live_ledger.specs.Faults.{fault_of}
use Rattle.live_ledger.specs.LedgerState.{HeldInfo, IsAmong}

-- each event's info is among these, with the event's stack and size
abbrev pub AreAmong : List HeldInfo → List Event → Type 0
AreAmong infos events = (k : ℕ) (event : Event) → slice_get events k ≡ Some event
    → IsAmong infos event

-- no event has a fault after those before it
abbrev pub HaveNoFault : List Event → Type 0
HaveNoFault events = (k : ℕ) (event : Event) → slice_get events k ≡ Some event
    → fault_of (take k events) event ≡ None

-- some list of infos gives each event's info one stack and one size, and no event has a fault
pub record ArePossible (events : List Event) : Type 0 where
  pub among : (infos : List HeldInfo) × AreAmong infos events
  pub no_fault : HaveNoFault events
