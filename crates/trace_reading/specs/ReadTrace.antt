-- What was read of a trace, by its tables and by what contracts see of its follower.
use Rattle.std.specs.Prelude.{◌≡◌, ℕ, ◌≤◌, List, [], Option, Some, None, length}
use Rattle.std.specs.Option.{option_map}
use Rattle.live_ledger.specs.declared.event.Event.{Event}
use Rattle.ht_trace.specs.StandsFor.{StandsAfter}
use Rattle.ht_trace.specs.StepOf.{event_of}
use Rattle.ht_trace.specs.TableState.{TableState}
use Rattle.ht_trace.specs.declared.step.Step.{Step}
use Rattle.command_frame.specs.Taker.{Tells}
use Rattle.command_frame.specs.declared.taker.LineRefusal.{LineRefusal}
use Rattle.trace_reading.specs.declared.fault.TraceFault.{TraceFault}
use Rattle.trace_reading.specs.declared.fault.TraceFault.TheVariants.{Event as event}
use Rattle.trace_reading.specs.declared.trace.Trace.{Trace}
use Rattle.trace_reading.specs.Following.{Following}
use Rattle.trace_reading.specs.Reading as reading
use Rattle.trace_reading.specs.TraceFault.{told}
use Rattle.trace_reading.specs.TraceReport.{EventFaults, content_fault, end_fault, fault_among}
use Rattle.trace_reading.specs.TraceReport.{patterns_before}

abbrev pub measure_of : {F : Type 0} → (F → Following) → Trace F → ℕ
measure_of view trace = reading.measure_of trace.tables (view trace.follower)

abbrev pub IsSound : {F : Type 0} → (F → Following) → Trace F → Type 0
IsSound view trace = reading.IsSound trace.tables (view trace.follower)

abbrev pub HasRead : {F : Type 0} → (F → Following) → Trace F → List (List ℕ) → List (List ℕ)
    → Type 0
HasRead view trace patterns lines =
    reading.HasRead trace.tables (view trace.follower) patterns lines

abbrev pub HasReadLine : {F : Type 0} → EventFaults → (F → Following) → Trace F → Trace F → List ℕ
    → Type 0
HasReadLine faults view old new line =
    reading.HasReadLine faults old.tables (view old.follower) new.tables (view new.follower) line

abbrev pub HasReadFirst : {F : Type 0} → EventFaults → (F → Following) → Trace F → Trace F → List ℕ
    → Option ℕ → Type 0
HasReadFirst faults view old new ready answer =
    reading.HasReadFirst faults old.tables (view old.follower) (view new.follower) ready answer

-- a refusal of the next line tells its fault
abbrev pub RefusesLine : {F : Type 0} → EventFaults → (F → Following) → Trace F → List ℕ
    → LineRefusal TraceFault → Type 0
RefusesLine faults view trace line refusal =
    (patterns lines : List (List ℕ)) → HasRead view trace patterns lines
    → Tells told refusal (content_fault faults patterns lines line)

-- the trace is sound, and its tables hold so many patterns that were given before the first line
pub record IsReady {F : Type 0} (view : F → Following) (trace : Trace F) (given : ℕ) : Type 0 where
  pub sound : IsSound view trace
  pub given_held : given ≤ length trace.tables.patterns

-- no line was read, over tables that hold so many patterns, of which all were given before the first line
pub record HasReadNothing {F : Type 0} (view : F → Following) (tables : TableState)
    (trace : Trace F) (given : ℕ) : Type 0 where
  pub sound : IsReady view trace given
  pub read : (texts : List (List ℕ)) → StandsAfter tables texts []
      → HasRead view trace (patterns_before given trace.tables) []
  pub patterns : patterns_before given trace.tables ≡ tables.patterns
  pub measure : measure_of view trace ≡ 0

-- the lines may be all of a trace
abbrev pub MayEnd : {F : Type 0} → (F → Following) → Trace F → Type 0
MayEnd view trace =
    (patterns lines : List (List ℕ)) → HasRead view trace patterns lines → end_fault lines ≡ None

-- they may not, and this is told of it
abbrev pub RefusesEnd : {F : Type 0} → (F → Following) → Trace F → TraceFault → Type 0
RefusesEnd view trace fault =
    (patterns lines : List (List ℕ)) → HasRead view trace patterns lines
    → end_fault lines ≡ Some (told fault)

-- what a line brings has no fault, beside tables that have the line
abbrev pub HasNoEventFault : EventFaults → TableState → Following → Step → Type 0
HasNoEventFault faults tables follower step =
    (taken : List Event) → follower.stands tables taken
    → fault_among faults tables taken (event_of step) ≡ None

-- a refusal of what a line brings tells its fault
abbrev pub RefusesStep : EventFaults → TableState → Following → Step → LineRefusal TraceFault
    → Type 0
RefusesStep faults tables follower step refusal =
    (taken : List Event) → follower.stands tables taken
    → Tells told refusal (option_map (λ fault. told (event fault))
    (fault_among faults tables taken (event_of step)))
