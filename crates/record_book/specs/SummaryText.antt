-- The summary of a recording, and its text: six lines of figures. The summary has the threads, the
-- events, the calls, the allocated bytes, what is live at the end, and the peak of the order from
-- the greatest peak of a script alone to the sum of these peaks: six lines.
use Rattle.std.specs.Prelude.{ℕ, List, ◌++◌, codes, decimal, length}
use Rattle.record_scripts.specs.Turns.{Turn}
use Rattle.record_book.specs.Actions.{actions}
use Rattle.record_book.specs.BookState.{Recording}
use Rattle.record_book.specs.Figures.{allocated, calls, every, greatest_below, live_bytes, live_count, own_peak, peak}
use Rattle.record_book.specs.Figures.{sum_below}
use Rattle.record_book.specs.declared.summary.Summary.{Summary}

-- the figures of scripts that are recorded in an order: the peak is that of the order, and it lies
-- between the greatest peak of a script and the sum of their peaks
unfoldable pub summary_of : List (List Turn) → List ℕ → Summary
summary_of scripts order = record {
  threads = length scripts;
  events = length order;
  calls = calls every (actions scripts order);
  allocated = allocated every (actions scripts order);
  leaked = live_bytes every (actions scripts order);
  blocks = live_count every (actions scripts order);
  peak = peak (actions scripts order);
  low = greatest_below (own_peak scripts) (length scripts);
  high = sum_below (own_peak scripts) (length scripts);
}

-- a label and a figure
abbrev pub figure : List ℕ → ℕ → List ℕ
figure label n = label ++ decimal n

-- the first four lines, as far as the end of the fourth figure
unfoldable pub count_lines : Summary → List ℕ
count_lines summary =
    figure (codes "# threads: ") summary.threads ++
    (figure (codes "\n# events: ") summary.events ++
    (figure (codes "\n# calls: ") summary.calls ++
    figure (codes "\n# allocated: ") summary.allocated))

-- the line of what is live at the end, behind the end of the line before it
unfoldable pub leaked_line : Summary → List ℕ
leaked_line summary = figure (codes "\n# leaked: ") summary.leaked
    ++ (figure (codes " in ") summary.blocks ++ codes " blocks\n")

-- the line of the greatest total
unfoldable pub peak_line : Summary → List ℕ
peak_line summary =
    figure (codes "# peak: ") summary.peak ++
    (figure (codes " from ") summary.low ++
    (figure (codes " to ") summary.high ++
    codes "\n"))

-- the six lines
abbrev pub summary_text : Summary → List ℕ
summary_text summary = count_lines summary ++ (leaked_line summary ++ peak_line summary)

-- those of scripts that are recorded in an order
unfoldable pub rec_summary : List (List Turn) → List ℕ → List ℕ
rec_summary scripts order = summary_text (summary_of scripts order)

-- those of a book
abbrev pub book_summary : Recording → List ℕ
book_summary book = rec_summary book.job.scripts book.order
