-- Lemmas on what stacks cost.
use Rattle.std.proofs.Common.{◌≡◌, ℕ, ◌^◌, ◌<◌, ◌≤◌, List, length, map, Some, refl, sym, ap, ◌∙◌, arith}
use Rattle.std.specs.Prelude.{slice_get, slice_index, slice_index_or, sum}
use Rattle.std.specs.List.{range_with_len}
use Rattle.std.proofs.Math.ListN as lists
use Rattle.std.proofs.lemmas.List.FromFn.{fill_by_all}
use Rattle.std.proofs.lemmas.List.{length-map}
use Rattle.std.proofs.lemmas.List.Sums.{sum-map}
use Rattle.std.proofs.lemmas.Option.{slice_get-get_or}
use Rattle.live_ledger.specs.declared.figures.Figures.{Figures}
use Rattle.live_ledger.specs.declared.event.Event.{Event}
use Rattle.live_ledger.specs.InStack.{live_in}
use Rattle.live_ledger.specs.LedgerState.{figures_at, no_figures}
use Rattle.peak_costs.specs.Peak.{StandsFor, first_events}
use Rattle.peak_costs.specs.PeakState.{IsSound, PeakState}
use Rattle.ht_print.proofs.PeakLemmas.{moment_is}
use Rattle.ht_print.specs.FlameCosts.{cost_in, flame_costs, trace_costs}
use Rattle.ht_print.specs.declared.flame.FlameCost.{FlameCost}
use Rattle.ht_print.specs.declared.flame.FlameCost.TheVariants.{Allocations, Temporary, Leaked, Peak}

-- there is a cost for each stack
pub flame_costs-count : (cost : FlameCost) (peaks : PeakState) → IsSound peaks
    → length (flame_costs cost peaks) ≡ peaks.ledger.stacks
flame_costs-count Allocations peaks is = length-map peaks.ledger.figures (λ (f : Figures). f.calls) ∙ is.ledger.stacks
flame_costs-count Temporary peaks is = length-map peaks.ledger.figures (λ (f : Figures). f.temporary) ∙ is.ledger.stacks
flame_costs-count Leaked peaks is = length-map peaks.ledger.figures (λ (f : Figures). f.live) ∙ is.ledger.stacks
flame_costs-count Peak peaks is = is.shares_held

-- and their sum is within its bound
pub flame_costs-bound : (cost : FlameCost) (peaks : PeakState) → IsSound peaks → sum (flame_costs cost peaks) ≤ 2 ^ 62
flame_costs-bound Allocations peaks is =
    let same = sum-map (λ (f : Figures). f.calls) peaks.ledger.figures in
    omega (arith, is.ledger.sums.calls, is.ledger.calls_and_frees, is.ledger.blocks_within, is.ledger.events_within)
flame_costs-bound Temporary peaks is =
    let same = sum-map (λ (f : Figures). f.temporary) peaks.ledger.figures in
    omega (arith, is.ledger.sums.temporary, is.ledger.calls_and_frees, is.ledger.blocks_within, is.ledger.events_within)
flame_costs-bound Leaked peaks is =
    let same = sum-map (λ (f : Figures). f.live) peaks.ledger.figures in
    omega (arith, is.ledger.sums.live, is.ledger.live_within, is.ledger.allocated_within)
flame_costs-bound Peak peaks is = omega (arith, is.shares_sum, is.total_within, is.ledger.allocated_within)

-- the share of a stack that is held
pub share-held : (peaks : PeakState) (stack share : ℕ) → IsSound peaks → stack < peaks.ledger.stacks
    → share ≡ slice_index peaks.shares stack → slice_get peaks.shares stack ≡ Some share
share-held peaks stack share is held share_is =
    let count = is.shares_held in
    slice_get-get_or peaks.shares stack 0 (omega arith) ∙ ap (λ (n : ℕ). Some n) (sym share_is)

-- a figure of each stack, as the events have it
figures-are : (f : Figures → ℕ) (g : ℕ → ℕ) (peaks : PeakState) → IsSound peaks → f no_figures ≡ 0
    → ((stack : ℕ) → f (figures_at peaks.ledger stack) ≡ g stack)
    → map f peaks.ledger.figures ≡ map g (range_with_len 0 peaks.ledger.stacks)
figures-are f g peaks is none each =
    fill_by_all g (map f peaks.ledger.figures) peaks.ledger.stacks 0
    (length-map peaks.ledger.figures f ∙ is.ledger.stacks)
    (λ stack within. ap (λ (d : ℕ). slice_index_or (map f peaks.ledger.figures) stack d) (sym none)
    ∙ lists.get_or-map f peaks.ledger.figures stack no_figures ∙ each stack)

-- what stacks cost is what they cost in the events that the peaks stand for
pub costs-of_trace : (cost : FlameCost) (peaks : PeakState) (events : List Event) → IsSound peaks
    → StandsFor peaks events → flame_costs cost peaks ≡ trace_costs cost peaks.ledger.stacks events
unfolding trace_costs
costs-of_trace Allocations peaks events is stands =
    figures-are (λ (f : Figures). f.calls) (cost_in Allocations events) peaks is refl
    (λ stack. (stands.ledger.each_stack stack).calls_is)
costs-of_trace Temporary peaks events is stands =
    figures-are (λ (f : Figures). f.temporary) (cost_in Temporary events) peaks is refl
    (λ stack. (stands.ledger.each_stack stack).temporary_is)
costs-of_trace Leaked peaks events is stands =
    figures-are (λ (f : Figures). f.live) (cost_in Leaked events) peaks is refl
    (λ stack. (stands.ledger.each_stack stack).live_is)
costs-of_trace Peak peaks events is stands =
    fill_by_all (cost_in Peak events) peaks.shares peaks.ledger.stacks 0 is.shares_held
    (λ stack within. stands.shares stack
    ∙ ap (λ (moment : ℕ). live_in stack (first_events moment events))
    (sym (moment_is peaks.moment events stands.peak)))
