-- An entry of an order means the event of its thread's script whose number is the count of that
-- thread among the entries before.
use Rattle.std.specs.Prelude.{ℕ, ◌+◌, ◌==◌, if◌then◌else◌, List, [], ◌∷◌, reverse, slice_get, Option, None, Some}
use Rattle.record_scripts.specs.Turns.{Turn, script_at}
use Rattle.record_scripts.specs.Events.{Event, events_of}

-- an event of a script, and the thread whose script it is
pub record Action : Type 0 where
  pub thread : ℕ
  pub event : Event

-- how often a thread stands in an order
abbrev pub times : ℕ → List ℕ → ℕ
times thread [] = 0
times thread (entry ∷ order) = (if entry == thread then 1 else 0) + times thread order

-- the events of a thread's script
abbrev pub events_at : List (List Turn) → ℕ → List Event
events_at scripts thread = events_of (script_at scripts thread)

-- the actions before, and this event of a thread, where there is one
abbrev pub with_event : ℕ → Option Event → List Action → List Action
with_event thread None before = before
with_event thread (Some event) before = record { thread = thread; event = event } ∷ before

-- for an order listed from the last entry to the first: an entry means the event of its thread
-- whose number is the count of that thread among the entries before
abbrev pub actions_back : List (List Turn) → List ℕ → List Action
actions_back scripts [] = []
actions_back scripts (thread ∷ before) = with_event thread
    (slice_get (events_at scripts thread) (times thread before)) (actions_back scripts before)

-- what the entries of an order mean, listed from the last to the first
unfoldable pub actions : List (List Turn) → List ℕ → List Action
actions scripts order = actions_back scripts (reverse order)
