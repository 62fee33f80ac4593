-- What is said of every list of events that a ledger stands for: that it goes on, also with one
-- event more, and which fault that event has.
use Rattle.std.specs.Prelude.{◌≡◌, List, [], ◌∷◌, ◌++◌, Result}
use Rattle.std.specs.Result.{result_err}
use Rattle.live_ledger.specs.declared.event.Event.{Event}
use Rattle.live_ledger.specs.declared.event.EventFault.{EventFault}
use Rattle.live_ledger.specs.Faults.{fault_of}

-- what holds of the events before holds of them after
abbrev pub GoesOn : (List Event → Type 0) → (List Event → Type 0) → Type 0
GoesOn before after = (events : List Event) → before events → after events

-- what holds of the events before holds, with this one at their end, after
abbrev pub GoesOnWith : Event → (List Event → Type 0) → (List Event → Type 0) → Type 0
GoesOnWith event before after = (events : List Event) → before events → after (events ++ event ∷ [])

-- the answer to an event tells its fault behind these events, and is good where it has none
abbrev pub TellsFault : (List Event → Type 0) → Event → Result (Unit {0}) EventFault → Type 0
TellsFault stands event answer =
    (events : List Event) → stands events → result_err answer ≡ fault_of events event
