-- That the moment of a peak is the first place of the greatest total.
use Rattle.std.proofs.Common.{◌≡◌, ℕ, ◌+◌, List, length, arith}
use Rattle.std.proofs.lemmas.List.Sums.{length-filter}
use Rattle.live_ledger.specs.declared.event.Event.{Event}
use Rattle.live_ledger.specs.Events.{counted, event_count, is_counted}
use Rattle.peak_costs.proofs.Laws as laws
use Rattle.peak_costs.specs.Peak.{IsPeak, total_after}
use Rattle.peak_costs.specs.FirstGreatest.{first_greatest, greatest}
use Rattle.peak_costs.specs.Totals.{total, totals}

-- as many events are counted as are taken
counted_is : (events : List Event) → length (counted events) ≡ event_count events
counted_is events = length-filter is_counted events

pub greatest_is : (moment : ℕ) (events : List Event) → IsPeak moment events
    → greatest (totals (counted events)) ≡ total_after moment events
greatest_is moment events is =
    let count = counted_is events in
    laws.greatest_is (total (counted events)) (length (counted events) + 1) moment (omega (arith, is.within, count))
    (λ k below. is.greatest k (omega (arith, below, count)))

pub moment_is : (moment : ℕ) (events : List Event) → IsPeak moment events
    → first_greatest (totals (counted events)) ≡ moment
moment_is moment events is =
    let count = counted_is events in
    laws.first_greatest_is (total (counted events)) (length (counted events) + 1) moment
    (omega (arith, is.within, count))
    (λ k below. is.greatest k (omega (arith, below, count))) is.least
