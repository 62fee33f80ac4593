-- The rules on version lines, for both forms of trace: one stands before all other lines but
-- comments, and no second one. Before the version line stand comments alone, and behind it no
-- second one; a trace's end without one is its fault. It holds of raw traces and of interpreted
-- ones.
use Rattle.std.specs.Prelude.{ℕ, Bool, false, ◌==◌, ◌||◌, if◌then◌else◌, List, [], ◌∷◌, Option, Some, None, is_some}
use Rattle.ht_trace.specs.declared.error.LineError.{LineError}
use Rattle.ht_trace.specs.declared.error.LineError.TheVariants.{NoVersion, SecondVersion}

-- whether a line may stand before the version line: it is a comment, or a version line as far as its first byte says
abbrev pub may_stand_first : List ℕ → Bool
may_stand_first [] = false
may_stand_first (b ∷ rest) = b == 35 || b == 118

-- the fault of a version line where there was one before
abbrev pub second_fault : Option ℕ → Option LineError
second_fault version = if is_some version then Some SecondVersion else None

-- the fault of a trace's end where there was none
abbrev pub missing_fault : Option ℕ → Option LineError
missing_fault version = if is_some version then None else Some NoVersion
