-- What a flame graph is drawn of. The cost of a stack in flame stacks is its allocations, its
-- temporary allocations, the bytes that it has live at the end, or those at the peak.
use Rattle.std.specs.Prelude.{◌≡◌, ℕ, List, map}
use Rattle.std.specs.List.{range_with_len}
use Rattle.live_ledger.specs.declared.event.Event.{Event}
use Rattle.live_ledger.specs.Events.{counted}
use Rattle.live_ledger.specs.InStack.{calls_in, live_in, temporary_in}
use Rattle.peak_costs.specs.Peak.{StandsFor, first_events}
use Rattle.peak_costs.specs.FirstGreatest.{first_greatest}
use Rattle.peak_costs.specs.Totals.{totals}
use Rattle.live_ledger.specs.declared.figures.Figures.{Figures}
use Rattle.peak_costs.specs.PeakState.{PeakState}
use Rattle.ht_print.specs.declared.flame.FlameCost.{FlameCost}
use Rattle.ht_print.specs.declared.flame.FlameCost.TheVariants.{Allocations, Temporary, Leaked, Peak}

-- the cost of each stack: its allocations, its temporary allocations, the bytes that it has live at
-- the end, or those at the peak
abbrev pub flame_costs : FlameCost → PeakState → List ℕ
flame_costs Allocations peaks = map (λ (f : Figures). f.calls) peaks.ledger.figures
flame_costs Temporary peaks = map (λ (f : Figures). f.temporary) peaks.ledger.figures
flame_costs Leaked peaks = map (λ (f : Figures). f.live) peaks.ledger.figures
flame_costs Peak peaks = peaks.shares

-- what a stack costs in a trace of these events; the peak is at the first number of events after
-- which the total is greatest
abbrev pub cost_in : FlameCost → List Event → ℕ → ℕ
cost_in Allocations events stack = calls_in stack events
cost_in Temporary events stack = temporary_in stack events
cost_in Leaked events stack = live_in stack events
cost_in Peak events stack = live_in stack
    (first_events (first_greatest (totals (counted events))) events)

-- the costs of so many stacks, by their numbers
unfoldable pub trace_costs : FlameCost → ℕ → List Event → List ℕ
trace_costs cost stacks events = map (cost_in cost events) (range_with_len 0 stacks)

-- these are the costs in the events that the peaks stand for
abbrev pub AreTraceCosts : FlameCost → PeakState → List ℕ → Type 0
AreTraceCosts cost peaks costs = (events : List Event) → StandsFor peaks events
    → costs ≡ trace_costs cost peaks.ledger.stacks events
