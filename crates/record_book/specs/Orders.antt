-- The orders in which threads may take the events of their scripts. An order is under scripts where
-- each thread stands in it at most as often as its script has events, and behind the free of a
-- reallocation comes an event of the same thread; it is an interleaving where each stands in it
-- exactly as often. It goes on from an earlier order that it begins with.
use Rattle.std.specs.Prelude.{◌≡◌, ℕ, ◌≤◌, true, false, List, [], ◌∷◌, ◌++◌, length, Option, None, Some, IfSome}
use Rattle.record_scripts.specs.Turns.{Turn}
use Rattle.record_scripts.specs.Events.{Event, allocation, free}
use Rattle.record_book.specs.Actions.{Action, actions, events_at, times}

-- the thread that has freed a block and is to allocate another in its place, where the event is that free
abbrev pub awaited_after : ℕ → Event → Option ℕ
awaited_after thread (allocation id size ips) = None
awaited_after thread (free id true) = Some thread
awaited_after thread (free id false) = None

-- the same after actions that are listed from the last to the first
abbrev pub awaited : List Action → Option ℕ
awaited [] = None
awaited (action ∷ before) = awaited_after action.thread action.event

-- listed from the last to the first: behind the free of a reallocation the next action is of the same thread
abbrev pub ArePaired : List Action → Type 0
ArePaired [] = Unit {0}
ArePaired (action ∷ before) = (IfSome (awaited before) (λ thread. action.thread ≡ thread))
    × ArePaired before

-- an order under scripts: each thread stands in it at most as often as its script has events, which
-- are none where there is no such script, and no reallocation is parted or left open
pub record IsUnder (scripts : List (List Turn)) (order : List ℕ) : Type 0 where
  pub at_most : (thread : ℕ) → times thread order ≤ length (events_at scripts thread)
  pub paired : ArePaired (actions scripts order)
  pub closed : awaited (actions scripts order) ≡ None

-- an interleaving of scripts: each thread stands in it exactly as often as its script has events
pub record IsInterleaving (scripts : List (List Turn)) (order : List ℕ) : Type 0 where
  pub under : IsUnder scripts order
  pub exactly : (thread : ℕ) → times thread order ≡ length (events_at scripts thread)

-- an order begins with an earlier one
abbrev pub Continues : List ℕ → List ℕ → Type 0
Continues old new = (more : List ℕ) × (new ≡ old ++ more)
