-- What `flame` makes of the lines of a trace. `flame` writes the flame stacks of the lines' tables
-- and events by a cost.
use Rattle.std.specs.Prelude.{ℕ, List}
use Rattle.ht_trace.specs.TraceEvents.{events}
use Rattle.ht_print.specs.declared.flame.FlameCost.{FlameCost}
use Rattle.ht_print.specs.FlameText.{flame_of_trace}
use Rattle.trace_reading.specs.TraceReport.{tables_behind}

-- the flame stacks of a trace with these lines
abbrev pub flame_written : FlameCost → List (List ℕ) → List (List ℕ) → List ℕ
flame_written cost patterns lines = flame_of_trace cost (tables_behind patterns lines)
    (events lines)
