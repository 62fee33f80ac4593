-- What `massif` makes of the lines of a trace. `massif` writes the profile of the trace's tables
-- and events as a Massif file. A line's fault is that of the tables, or else, by the tables with
-- the line, that of its event: the ledger's, or that the gross bytes or the time of a counted event
-- are too many.
use Rattle.std.specs.Prelude.{ℕ, List, [], unwrap_or}
use Rattle.ht_trace.specs.TableState.{TableState}
use Rattle.ht_trace.specs.TraceEvents.{events}
use Rattle.massif_file.specs.MassifText.{massif_text}
use Rattle.massif_sample.specs.FunctionNames.{ignores}
use Rattle.massif_sample.specs.MassifSettings.{MassifSettings}
use Rattle.massif_sample.specs.SampleFault.{sample_fault}
use Rattle.massif_sample.specs.Sampled.{sampled}
use Rattle.command_frame.specs.Plan.{Plan, one_file}
use Rattle.trace_reading.specs.TraceReport.{EventFaults, tables_behind, trace_report}

-- the command of a trace with these tables, and the empty text where it has none
abbrev pub command_in : TableState → List ℕ
command_in tables = unwrap_or tables.command []

-- the profile of a trace with these lines, as a Massif file
unfoldable pub massif_written : MassifSettings → List (List ℕ) → List (List ℕ) → List ℕ
massif_written settings patterns lines = massif_text
    (sampled settings.options settings.names (tables_behind patterns lines) (events lines)
    (command_in (tables_behind patterns lines)))

-- the fault of an event after earlier ones, by the tables with its line: that of the ledger, or
-- else that its gross bytes or its time are too many
unfoldable pub sampler_faults : MassifSettings → EventFaults
sampler_faults settings tables earlier event = sample_fault settings.options
    (ignores tables settings.names) earlier event

-- one trace is read, whose profile is written once all lines were read
abbrev pub massif_plan : MassifSettings → List ℕ → Plan
massif_plan settings trace = one_file trace
    (trace_report (sampler_faults settings) [] (massif_written settings []))
