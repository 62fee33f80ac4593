-- What a version line does to the tables, whatever it says of heaptrack's own version, for private
-- clauses.
use Rattle.std.specs.Prelude.{ℕ}
use Rattle.ht_lines.specs.Content.{version_line}
use Rattle.ht_trace.specs.declared.error.LineError.{LineError}
use Rattle.ht_trace.specs.declared.step.Step.{Step}
use Rattle.ht_trace.specs.StateAfter.{Refuses, Takes}
use Rattle.ht_trace.specs.TableState.{TableState}

abbrev pub TakesVersion : TableState → ℕ → Step → TableState → Type 0
TakesVersion old file step new =
    (heaptrack : ℕ) → Takes old (version_line heaptrack file) step new

abbrev pub RefusesVersion : TableState → ℕ → LineError → TableState → Type 0
RefusesVersion old file error new =
    (heaptrack : ℕ) → Refuses old (version_line heaptrack file) error new
