-- The summary of a trace is its six figures, written as six lines.
use Rattle.std.specs.Prelude.{◌≡◌, ℕ, List, ◌++◌, codes, decimal}
use Rattle.live_ledger.specs.declared.event.Event.{Event}
use Rattle.live_ledger.specs.Events.{counted, event_count}
use Rattle.live_ledger.specs.LiveBytes.{allocated_bytes, live_bytes}
use Rattle.live_ledger.specs.LiveBlocks.{calls, live_blocks}
use Rattle.live_ledger.specs.Temporary.{temporary_count}
use Rattle.ht_print.specs.declared.summary.Summary.{Summary}
use Rattle.peak_costs.specs.Totals.{totals}
use Rattle.peak_costs.specs.FirstGreatest.{first_greatest, greatest}

-- the figures of a trace of these events; the peak's moment counts allocations and frees alone
unfoldable pub summary_of : List Event → Summary
summary_of events = record {
  totals = record {
    events = event_count events;
    calls = calls events;
    temporary = temporary_count events;
    allocated = allocated_bytes events;
    live = live_bytes events;
    blocks = live_blocks events;
  };
  peak = greatest (totals (counted events));
  moment = first_greatest (totals (counted events));
}

-- a label and a figure
abbrev pub figure : List ℕ → ℕ → List ℕ
figure label n = label ++ decimal n

-- the first four lines, as far as the end of the fourth figure
unfoldable pub count_lines : Summary → List ℕ
count_lines summary =
    figure (codes "events: ") summary.totals.events ++
    (figure (codes "\ncalls: ") summary.totals.calls ++
    (figure (codes "\ntemporary: ") summary.totals.temporary ++
    figure (codes "\nallocated: ") summary.totals.allocated))

-- the last two lines
unfoldable pub live_lines : Summary → List ℕ
live_lines summary =
    figure (codes "\npeak: ") summary.peak ++
    (figure (codes " at event ") summary.moment ++
    (figure (codes "\nleaked: ") summary.totals.live ++
    (figure (codes " in ") summary.totals.blocks ++
    codes " blocks\n")))

-- the six lines
abbrev pub summary_lines : Summary → List ℕ
summary_lines summary = count_lines summary ++ live_lines summary

-- those of a trace of these events
unfoldable pub summary_text : List Event → List ℕ
summary_text events = summary_lines (summary_of events)

-- the figures are those of any such events
abbrev pub IsSummaryOf : (List Event → Type 0) → Summary → Type 0
IsSummaryOf holds summary = (events : List Event) → holds events → summary ≡ summary_of events
