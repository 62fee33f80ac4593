-- Lines of events of held infos, which bring nothing but the event. The line of an event of a held
-- info brings that event alone.
use Rattle.std.specs.Prelude.{◌≡◌, ℕ, List, [], ◌∷◌, ◌++◌, None}
use Rattle.ht_lines.specs.declared.event.EventKind.{EventKind}
use Rattle.ht_lines.specs.declared.event.EventKind.TheVariants.{Allocation, Free as FreeKind}
use Rattle.live_ledger.specs.declared.event.Event.{Event}
use Rattle.live_ledger.specs.declared.event.Event.TheVariants.{Alloc, Free}
use Rattle.live_ledger.specs.LedgerState.{HeldInfo}
use Rattle.ht_trace.specs.declared.step.Step.TheVariants as step
use Rattle.ht_trace.specs.LineFault.{line_fault_after}
use Rattle.ht_trace.specs.StandsFor.{StandsAfter}
use Rattle.ht_trace.specs.StepOf.{step_of}
use Rattle.ht_trace.specs.TableState.{TableState}
use Rattle.ht_trace.specs.TraceEvents.{events}

-- the event of an info, with its stack and size
abbrev pub event_of_info : EventKind → ℕ → HeldInfo → Event
event_of_info Allocation info held = Alloc info held.stack held.size
event_of_info FreeKind info held = Free info held.stack held.size

-- whatever lines the tables stand for, the line has no fault after them, brings the event, and leaves the tables as
-- they are
pub record PassesLine (tables : TableState) (line : List ℕ) (event : Event) : Type 0 where
  pub no_fault : (given lines : List (List ℕ)) → StandsAfter tables given lines
      → line_fault_after given lines line ≡ None
  pub brings : (given lines : List (List ℕ)) → StandsAfter tables given lines
      → step_of lines line ≡ step.Event event
  pub stands : (given lines : List (List ℕ)) → StandsAfter tables given lines
      → StandsAfter tables given (lines ++ line ∷ [])
  pub events : (given lines : List (List ℕ)) → StandsAfter tables given lines
      → events (lines ++ line ∷ []) ≡ events lines ++ event ∷ []
