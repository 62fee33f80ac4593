-- Sums over a trace's events, for any weight that an info gives its blocks, are sums over the infos,
-- and of frees no more than of allocations.
use Rattle.std.specs.Prelude.{◌≡◌, ◌≤◌, ℕ, List, sum_by}
use Rattle.live_ledger.specs.declared.event.Event.{Event}
use Rattle.live_ledger.specs.ByInfo.{alloc_weight, free_weight, weighed}
use Rattle.live_ledger.specs.LedgerState.{HeldInfo, LedgerState}
use Rattle.live_ledger.specs.Possible.{ArePossible}
use Rattle.live_ledger.specs.StandsFor.{StandsFor}

-- the sum over the allocations is that over the infos, each as often as it is counted
abbrev pub HasSumsByInfo : LedgerState → List Event → Type 0
HasSumsByInfo state events = (weight : HeldInfo → ℕ) → StandsFor state events
    → weighed weight state.infos state.info_calls ≡ sum_by (alloc_weight weight) events

-- no more is freed than allocated
abbrev pub HaveFreesWithin : List Event → Type 0
HaveFreesWithin events = (weight : HeldInfo → ℕ) → ArePossible events
    → sum_by (free_weight weight) events ≤ sum_by (alloc_weight weight) events
