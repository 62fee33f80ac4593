-- What a command makes of the lines of a trace: patterns of suppressions may be given before them,
-- the tables judge a line, and then, by the tables with it, the ledger or what else follows the
-- events judges its event; a text of the patterns and the lines is written once all were read.
use Rattle.std.specs.Prelude.{ℕ, List, [], ◌∷◌, ◌++◌, Option, Some, None, take}
use Rattle.std.specs.Option.{option_map, option_or}
use Rattle.live_ledger.specs.declared.event.Event.{Event}
use Rattle.live_ledger.specs.declared.event.EventFault.{EventFault}
use Rattle.live_ledger.specs.Faults.{fault_of}
use Rattle.ht_trace.specs.Contents.{contents}
use Rattle.ht_trace.specs.LineFault as tables
use Rattle.ht_trace.specs.StepOf.{event_of, step_of}
use Rattle.ht_trace.specs.TableState.{TableState, tables_of}
use Rattle.ht_trace.specs.TraceEvents.{events}
use Rattle.ht_trace.specs.TraceLists as lists
use Rattle.command_frame.specs.Plan.{Plan, one_file}
use Rattle.command_frame.specs.Report.{Report, Writes}
use Rattle.command_frame.specs.Told.{Told}
use Rattle.trace_reading.specs.declared.fault.TraceFault.TheVariants.{Line, Event as event}
use Rattle.trace_reading.specs.TraceFault.{told}

-- the tables of a trace with these lines, whose patterns stand behind those that were given before
abbrev pub tables_behind : List (List ℕ) → List (List ℕ) → TableState
tables_behind patterns lines = record (tables_of lines)
    { patterns = patterns ++ lists.patterns (contents lines) }

-- of tables that were given so many patterns before the first line, those
abbrev pub patterns_before : ℕ → TableState → List (List ℕ)
patterns_before given tables = take given tables.patterns

-- the fault of an event after earlier ones, beside tables that have its line
abbrev pub EventFaults : Type 0
EventFaults = TableState → List Event → Event → Option EventFault

-- the ledger's, which needs no tables
abbrev pub ledger_faults : EventFaults
ledger_faults tables = fault_of

-- the fault of what a line brings
abbrev pub fault_among : EventFaults → TableState → List Event → Option Event → Option EventFault
fault_among faults tables earlier None = None
fault_among faults tables earlier (Some taken) = faults tables earlier taken

-- the fault of what a line of a trace says after earlier lines: the tables judge first, and then,
-- by the tables with it, what follows the events
abbrev pub content_fault : EventFaults → List (List ℕ) → List (List ℕ) → List ℕ → Option Told
content_fault faults patterns earlier line =
    option_or (option_map (λ error. told (Line error))
    (tables.fault_in (tables_behind patterns earlier) line))
    (option_map (λ fault. told (event fault))
    (fault_among faults (tables_behind patterns (earlier ++ line ∷ [])) (events earlier)
    (event_of (step_of earlier line))))

-- the fault of the end of a trace
abbrev pub end_fault : List (List ℕ) → Option Told
end_fault lines = option_map (λ error. told (Line error)) (tables.end_fault lines)

-- patterns being given before the first line, a text of the lines is written once all of them were read
abbrev pub trace_report : EventFaults → List (List ℕ) → (List (List ℕ) → List ℕ) → Report
trace_report faults patterns text = record {
  line_fault = content_fault faults patterns;
  end_fault = λ lines ended. end_fault lines;
  gains = λ earlier line. [];
  verdict = λ lines. Writes (text lines);
}

-- one trace is read, for which no suppressions are given; its events have the ledger's faults
abbrev pub trace_plan : List ℕ → (List (List ℕ) → List ℕ) → Plan
trace_plan trace text = one_file trace (trace_report ledger_faults [] text)
