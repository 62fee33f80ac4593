-- What `print` makes of a trace is the report on its tables, which have the patterns, and its
-- events.
use Rattle.std.specs.Prelude.{ℕ, List}
use Rattle.ht_trace.specs.TraceEvents.{events}
use Rattle.ht_print.specs.declared.options.PrintOptions.{PrintOptions}
use Rattle.ht_print.specs.ReportText.{report_of_trace}
use Rattle.trace_reading.specs.TraceReport.{tables_behind}

-- the report on a trace with these lines, whose patterns stand behind those that were given before
abbrev pub report_written : PrintOptions → List (List ℕ) → List (List ℕ) → List ℕ
report_written options patterns lines = report_of_trace options (tables_behind patterns lines)
    (events lines)
