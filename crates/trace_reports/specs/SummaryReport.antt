-- What `summary` makes of the lines of a trace. `summary` writes the summary of the events,
-- whatever patterns were given.
use Rattle.std.specs.Prelude.{ℕ, List, []}
use Rattle.ht_trace.specs.TraceEvents.{events}
use Rattle.ht_print.specs.SummaryText.{summary_text}
use Rattle.command_frame.specs.Plan.{Plan}
use Rattle.trace_reading.specs.TraceReport.{trace_plan}

-- the summary of a trace with these lines, whatever patterns were given before them
abbrev pub summary_written : List (List ℕ) → List (List ℕ) → List ℕ
summary_written patterns lines = summary_text (events lines)

-- a summary is written once all lines were read
abbrev pub summary_plan : List ℕ → Plan
summary_plan trace = trace_plan trace (summary_written [])
