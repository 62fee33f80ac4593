-- The figures of a summary, from those of a tally.
use Rattle.std.proofs.Common.{◌≡◌, ℕ, List, length, ap, sym, ◌∙◌}
use Rattle.record_scripts.specs.Events.{Event}
use Rattle.record_scripts.specs.Turns.{Turn}
use Rattle.record_book.specs.declared.summary.Summary.{Summary}
use Rattle.record_book.specs.declared.tally.Tally.{Tally}
use Rattle.record_book.specs.Actions.{actions}
use Rattle.record_book.specs.Figures.{Held, allocated, bytes_asked, bytes_held, calls, every, greatest_below}
use Rattle.record_book.specs.Figures.{held_after, live_bytes, live_count, one_asked, one_held, own_peak, peak}
use Rattle.record_book.specs.Figures.{sum_below, weigh, weigh_events}
use Rattle.record_book.specs.Orders.{IsInterleaving}
use Rattle.record_book.specs.ScriptFigures.{HasScriptFigures}
use Rattle.record_book.specs.SummaryText.{summary_of}
use Rattle.record_book.specs.TallyState.{IsTally}
use Rattle.record_book.proofs.FigureLemmas.{events-scripts, greatest-peak, held-scripts, least-peak, order-length}

-- nine figures
abbrev summary_with : ℕ → ℕ → ℕ → ℕ → ℕ → ℕ → ℕ → ℕ → ℕ → Summary
summary_with threads events calls allocated leaked blocks peak low high =
    record {
      threads = threads;
      events = events;
      calls = calls;
      allocated = allocated;
      leaked = leaked;
      blocks = blocks;
      peak = peak;
      low = low;
      high = high;
    }

pub summary-is : (scripts : List (List Turn)) (order : List ℕ) (tally : Tally) (threads events low high : ℕ)
    → IsTally tally (actions scripts order)
    → threads ≡ length scripts → events ≡ length order → low ≡ greatest_below (own_peak scripts) (length scripts)
    → high ≡ sum_below (own_peak scripts) (length scripts)
    → record {
      threads = threads;
      events = events;
      calls = tally.calls;
      allocated = tally.allocated;
      leaked = tally.total;
      blocks = tally.blocks;
      peak = tally.peak;
      low = low;
      high = high;
    }
    ≡ summary_of scripts order
unfolding summary_of
summary-is scripts order tally threads events low high is threads_is events_is low_is high_is =
    ap (λ (n : ℕ). summary_with n events tally.calls tally.allocated tally.total tally.blocks tally.peak low high)
    threads_is
    ∙ ap (λ (n : ℕ). summary_with (length scripts) n tally.calls tally.allocated tally.total tally.blocks tally.peak low
    high) events_is
    ∙ ap (λ (n : ℕ). summary_with (length scripts) (length order) n tally.allocated tally.total tally.blocks tally.peak
    low high) is.calls_is
    ∙ ap (λ (n : ℕ). summary_with (length scripts) (length order) (calls every (actions scripts order)) n tally.total
    tally.blocks tally.peak low high) is.allocated_is
    ∙ ap (λ (n : ℕ). summary_with (length scripts) (length order) (calls every (actions scripts order))
    (allocated every (actions scripts order)) n tally.blocks tally.peak low high) is.total
    ∙ ap (λ (n : ℕ). summary_with (length scripts) (length order) (calls every (actions scripts order))
    (allocated every (actions scripts order)) (live_bytes every (actions scripts order)) n tally.peak low
    high) is.blocks
    ∙ ap (λ (n : ℕ). summary_with (length scripts) (length order) (calls every (actions scripts order))
    (allocated every (actions scripts order)) (live_bytes every (actions scripts order))
    (live_count every (actions scripts order)) n low high) is.peak_is
    ∙ ap (λ (n : ℕ). summary_with (length scripts) (length order) (calls every (actions scripts order))
    (allocated every (actions scripts order)) (live_bytes every (actions scripts order))
    (live_count every (actions scripts order)) (peak (actions scripts order)) n high) low_is
    ∙ ap (λ (n : ℕ). summary_with (length scripts) (length order) (calls every (actions scripts order))
    (allocated every (actions scripts order)) (live_bytes every (actions scripts order))
    (live_count every (actions scripts order)) (peak (actions scripts order))
    (greatest_below (own_peak scripts) (length scripts)) n)
    high_is

-- two orders of the same scripts differ in the peak alone
pub same-but-peak : (scripts : List (List Turn)) (left right : List ℕ) (n : ℕ) → IsInterleaving scripts left
    → IsInterleaving scripts right
    → record (summary_of scripts left) { peak = n } ≡ record (summary_of scripts right) { peak = n }
unfolding summary_of
same-but-peak scripts left right n is other =
    let low = greatest_below (own_peak scripts) (length scripts) in
    let high = sum_below (own_peak scripts) (length scripts) in
    let events : length left ≡ length right = order-length scripts left is ∙ sym (order-length scripts right other) in
    let asked : (weight : Event → ℕ)
    → weigh_events weight (actions scripts left) ≡ weigh_events weight (actions scripts right) =
    λ weight. events-scripts weight scripts left is ∙ sym (events-scripts weight scripts right other) in
    let held : (weight : Held → ℕ)
    → weigh weight (held_after (actions scripts left)) ≡ weigh weight (held_after (actions scripts right)) =
    λ weight. held-scripts weight scripts left is ∙ sym (held-scripts weight scripts right other) in
    ap (λ (k : ℕ). summary_with (length scripts) k (calls every (actions scripts left))
    (allocated every (actions scripts left)) (live_bytes every (actions scripts left))
    (live_count every (actions scripts left)) n low high) events
    ∙ ap (λ (k : ℕ). summary_with (length scripts) (length right) k (allocated every (actions scripts left))
    (live_bytes every (actions scripts left)) (live_count every (actions scripts left)) n low high) (asked
    (one_asked every))
    ∙ ap (λ (k : ℕ). summary_with (length scripts) (length right) (calls every (actions scripts right)) k
    (live_bytes every (actions scripts left)) (live_count every (actions scripts left)) n low high) (asked
    (bytes_asked every))
    ∙ ap (λ (k : ℕ). summary_with (length scripts) (length right) (calls every (actions scripts right))
    (allocated every (actions scripts right)) k (live_count every (actions scripts left)) n low high) (held
    (bytes_held every))
    ∙ ap (λ (k : ℕ). summary_with (length scripts) (length right) (calls every (actions scripts right))
    (allocated every (actions scripts right)) (live_bytes every (actions scripts right)) k n low high) (held
    (one_held every))

-- the figures of an interleaving are those of its scripts
pub script-figures : (scripts : List (List Turn)) (order : List ℕ) → IsInterleaving scripts order
    → HasScriptFigures scripts order
script-figures scripts order is = record {
  event_sum = order-length scripts order is;
  call_sum = λ counted. events-scripts (one_asked counted) scripts order is;
  allocated_sum = λ counted. events-scripts (bytes_asked counted) scripts order is;
  live_sum = λ counted. held-scripts (bytes_held counted) scripts order is;
  block_sum = λ counted. held-scripts (one_held counted) scripts order is;
  least_peak = least-peak scripts order is;
  greatest_peak = greatest-peak scripts order is;
  other_orders = λ other total same. same-but-peak scripts order other total is same;
}
