-- What `dhat` makes of the lines of a trace. `dhat` writes the profile of the lines' tables and
-- events, in a line.
use Rattle.std.specs.Prelude.{ℕ, List, [], ◌++◌, codes}
use Rattle.dhat_json.specs.DhatValue.{dhat_text}
use Rattle.dhat_trace.specs.DhatOf.{dhat_of}
use Rattle.ht_trace.specs.TraceEvents.{events}
use Rattle.command_frame.specs.Plan.{Plan}
use Rattle.trace_reading.specs.TraceReport.{tables_behind, trace_plan}

-- the profile of a trace with these lines, in a line
unfoldable pub dhat_written : List (List ℕ) → List (List ℕ) → List ℕ
dhat_written patterns lines = dhat_text (dhat_of (tables_behind patterns lines) (events lines))
    ++ codes "\n"

-- the profile is written once all lines were read
abbrev pub dhat_plan : List ℕ → Plan
dhat_plan trace = trace_plan trace (dhat_written [])
