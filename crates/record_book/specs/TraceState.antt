-- What the trace that is written stands for. What the text that is written, its nodes and its heap
-- stand for; what a turn brings.
use Rattle.std.specs.Prelude.{◌≡◌, ℕ, true, false, List, ◌∷◌, ◌++◌}
use Rattle.record_scripts.specs.Events.{allocation, free}
use Rattle.record_scripts.specs.Turns.{Turn, allocates, frees, reallocates}
use Rattle.record_book.specs.declared.trace.Trace.{Trace}
use Rattle.record_book.specs.Actions.{Action}
use Rattle.record_book.specs.HeapPlaces.{Place, places_after, places_with, released}
use Rattle.record_book.specs.HeapState.{IsHeap}
use Rattle.record_book.specs.NodeNumbers.{stacks_after, with_suffixes}
use Rattle.record_book.specs.NodeState.{AreNumbered}
use Rattle.record_book.specs.RecordedTrace.{event_text, last_thread, trace_text}

-- for actions listed from the last to the first: those with a turn of a thread, which is one or two events
abbrev pub with_turn : ℕ → Turn → List Action → List Action
with_turn thread (allocates id size ips) before
    = record { thread = thread; event = allocation id size ips } ∷ before
with_turn thread (frees id) before = record { thread = thread; event = free id false } ∷ before
with_turn thread (reallocates id size ips) before =
    record { thread = thread; event = allocation id size ips }
    ∷ record { thread = thread; event = free id true } ∷ before

-- behind a front that was let go, the trace is that of the actions, behind the lines of modules
pub record IsTrace (gone : List ℕ) (trace : Trace) (modules : List ℕ) (actions : List Action) : Type
    0 where
  pub text_is : gone ++ trace.text.items ≡ trace_text modules actions
  pub nodes_are : AreNumbered trace.nodes (stacks_after actions)
  pub heap_is : IsHeap trace.heap (places_after actions)
  pub last_is : trace.last ≡ last_thread actions

-- the lines of a turn but for that of its thread, after these stacks and places
abbrev pub turn_text : List (List ℕ) → List Place → ℕ → Turn → List ℕ
turn_text known places thread (allocates id size ips) = event_text known places thread
    (allocation id size ips)
turn_text known places thread (frees id) = event_text known places thread (free id false)
turn_text known places thread (reallocates id size ips) =
    event_text known places thread (free id true)
    ++ event_text known (released thread id places) thread (allocation id size ips)

-- the stacks and the places after it
abbrev pub stacks_of_turn : List (List ℕ) → Turn → List (List ℕ)
stacks_of_turn known (allocates id size ips) = with_suffixes known ips
stacks_of_turn known (frees id) = known
stacks_of_turn known (reallocates id size ips) = with_suffixes known ips

abbrev pub places_of_turn : ℕ → Turn → List Place → List Place
places_of_turn thread (allocates id size ips) places = places_with thread (allocation id size ips)
    places
places_of_turn thread (frees id) places = released thread id places
places_of_turn thread (reallocates id size ips) places = places_with thread (allocation id size ips)
    (released thread id places)

-- the trace has got the lines of a turn behind what was there, its nodes and its blocks
pub record HasTurn (before : List ℕ) (trace : Trace) (known : List (List ℕ)) (places : List Place)
    (thread : ℕ) (turn : Turn) : Type 0 where
  pub text_is : trace.text.items ≡ before ++ turn_text known places thread turn
  pub nodes_are : AreNumbered trace.nodes (stacks_of_turn known turn)
  pub heap_is : IsHeap trace.heap (places_of_turn thread turn places)
