-- Traces without a fault. Lines have no fault behind earlier ones where each has none after those
-- before it, neither in the tables nor in the figures of its event, and their end has none.
use Rattle.std.specs.Prelude.{◌≡◌, ℕ, List, [], ◌∷◌, ◌++◌, Option, Some, None}
use Rattle.live_ledger.specs.declared.event.Event.{Event}
use Rattle.live_ledger.specs.declared.event.EventFault.{EventFault}
use Rattle.live_ledger.specs.Faults.{fault_of}
use Rattle.ht_trace.specs.LineFault.{end_fault, line_fault}
use Rattle.ht_trace.specs.StepOf.{event_of, step_of}
use Rattle.ht_trace.specs.TraceEvents.{events}

-- the fault of an event after earlier ones, where there is an event
abbrev pub event_fault : List Event → Option Event → Option EventFault
event_fault earlier None = None
event_fault earlier (Some event) = fault_of earlier event

-- a line has no fault after earlier lines, and neither has the event that it brings
abbrev pub IsGood : List (List ℕ) → List ℕ → Type 0
IsGood earlier line = (line_fault earlier line ≡ None)
    × (event_fault (events earlier) (event_of (step_of earlier line)) ≡ None)

-- none of these lines has a fault after the earlier ones and those before it, nor has the end behind them
abbrev pub HasNoFault : List (List ℕ) → List (List ℕ) → Type 0
HasNoFault earlier [] = end_fault earlier ≡ None
HasNoFault earlier (line ∷ lines) = IsGood earlier line × HasNoFault (earlier ++ line ∷ []) lines
