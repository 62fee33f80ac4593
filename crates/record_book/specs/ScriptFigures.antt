-- The figures of a recording by those of its scripts, whatever the order of the threads. The
-- figures of an interleaving are the sums of those of its scripts; its peak lies between their
-- greatest peak and the sum of their peaks.
use Rattle.std.specs.Prelude.{◌≡◌, ℕ, ◌≤◌, Bool, List, length}
use Rattle.record_scripts.specs.Events.{event_count}
use Rattle.record_scripts.specs.Turns.{Turn}
use Rattle.record_book.specs.Actions.{actions}
use Rattle.record_book.specs.Figures.{allocated, alone, calls, greatest_below, live_bytes, live_count, own_peak, peak}
use Rattle.record_book.specs.Figures.{sum_below}
use Rattle.record_book.specs.Orders.{IsInterleaving}
use Rattle.record_book.specs.SummaryText.{summary_of}

-- calls, allocated bytes and what is live at the end, of all stacks and of any that are counted,
-- are the sums of what the threads have alone, and so are the events. The greatest total is no less
-- than each thread's own peak, and no greater than the sum of them. So the summary of another order
-- of the scripts differs in the peak alone
pub record HasScriptFigures (scripts : List (List Turn)) (order : List ℕ) : Type 0 where
  pub event_sum : length order ≡ event_count scripts
  pub call_sum : (counted : List ℕ → Bool)
      → calls counted (actions scripts order)
      ≡ sum_below (λ thread. calls counted (alone scripts thread)) (length scripts)
  pub allocated_sum : (counted : List ℕ → Bool)
      → allocated counted (actions scripts order)
      ≡ sum_below (λ thread. allocated counted (alone scripts thread)) (length scripts)
  pub live_sum : (counted : List ℕ → Bool)
      → live_bytes counted (actions scripts order)
      ≡ sum_below (λ thread. live_bytes counted (alone scripts thread)) (length scripts)
  pub block_sum : (counted : List ℕ → Bool)
      → live_count counted (actions scripts order)
      ≡ sum_below (λ thread. live_count counted (alone scripts thread)) (length scripts)
  pub least_peak : greatest_below (own_peak scripts) (length scripts) ≤ peak (actions scripts order)
  pub greatest_peak : peak (actions scripts order) ≤ sum_below (own_peak scripts) (length scripts)
  pub other_orders : (other : List ℕ) (total : ℕ) → IsInterleaving scripts other
      → record (summary_of scripts order) { peak = total }
      ≡ record (summary_of scripts other) { peak = total }
