-- Which order the bytes of a recording spell: its own. There may be 64 scripts at most, and the lines of
-- their modules have to spell nothing.
use Rattle.std.specs.Prelude.{◌≡◌, ℕ, ◌≤◌, List, ◌++◌, length}
use Rattle.record_scripts.specs.Job.{Job}
use Rattle.record_book.specs.Orders.{IsUnder}
use Rattle.record_book.specs.RecordedTrace.{recorded}
use Rattle.record_book.specs.Spelled.{AreQuiet, spelled}
use Rattle.record_book.specs.SummaryText.{rec_summary}

-- the bytes spell the order
abbrev pub TracesSpellOrders : Type 0
TracesSpellOrders = (job : Job) (order : List ℕ) → length job.scripts ≤ 64
    → AreQuiet job.modules → IsUnder job.scripts order → spelled (recorded job order) ≡ order

-- so they do with a summary behind them, whichever order that is of
abbrev pub SummariesSpellNothing : Type 0
SummariesSpellNothing = (job : Job) (order other : List ℕ) → length job.scripts ≤ 64
    → AreQuiet job.modules → IsUnder job.scripts order
    → spelled (recorded job order ++ rec_summary job.scripts other) ≡ order
