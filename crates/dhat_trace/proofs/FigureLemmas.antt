-- That the figures which are kept are those of the events.
use Rattle.std.proofs.Common.{◌≡◌, ℕ, ◌+◌, ◌*◌, ◌-◌, List, length, ap, ◌∙◌, sym, arith}
use Rattle.std.proofs.Math.Path.{fun_ext}
use Rattle.std.proofs.lemmas.List.Sums.{length-filter}
use Rattle.dhat_metrics.specs.LifeState.{LifeState}
use Rattle.dhat_metrics.specs.StandsFor as life_spec
use Rattle.live_ledger.specs.declared.event.Event.{Event}
use Rattle.live_ledger.specs.Events.{counted, event_count, is_counted}
use Rattle.live_ledger.specs.InStack.{blocks_in, live_in}
use Rattle.peak_costs.specs.Peak as peak_spec
use Rattle.peak_costs.specs.Peak.{first_events, total_after}
use Rattle.peak_costs.proofs.Laws.{first_greatest_is}
use Rattle.peak_costs.specs.PeakState.{PeakState}
use Rattle.peak_costs.specs.Totals.{total}
use Rattle.dhat_trace.specs.PointFigures.{figures_in, figures_of, most_moment, peak_moment}

-- the moment of the peak
pub peak_moment_is : (moment : ℕ) (events : List Event) → peak_spec.IsPeak moment events → peak_moment events ≡ moment
peak_moment_is moment events is =
    let count : length (counted events) ≡ event_count events = length-filter is_counted events in
    first_greatest_is (total (counted events)) (length (counted events) + 1) moment (omega (arith, is.within, count))
    (λ k below. is.greatest k (omega (arith, below, count))) is.least

-- the moment at which a stack has the most bytes
most_moment_is : (bytes blocks stack : ℕ) (events : List Event) (most : life_spec.HasMost bytes blocks stack events)
    → most_moment events stack ≡ most.moment
most_moment_is bytes blocks stack events most =
    first_greatest_is (λ k. life_spec.live_after stack k events) (event_count events + 1) most.moment
    (omega (arith, most.within))
    (λ k below. most.greatest k (omega (arith, below))) most.least

-- lifetimes, told by the live blocks
lived_is : (tl began ended events held blocks : ℕ) → tl + began ≡ ended + events * held → held ≡ blocks
    → tl ≡ ended + events * blocks - began
lived_is tl began ended events held blocks sum same =
    let all : tl + began ≡ ended + events * blocks = sum ∙ ap (λ n. ended + events * n) same in
    omega (arith, all)

-- the figures of a stack
same_figures : (peaks : PeakState) (lifetimes : LifeState) (events : List Event) → peak_spec.StandsFor peaks events
    → life_spec.StandsFor lifetimes events
    → (stack : ℕ) → figures_of peaks lifetimes stack ≡ figures_in events stack
same_figures peaks lifetimes events by_peaks by_lives stack =
    let ledger = by_peaks.ledger.each_stack stack in
    let life = by_lives.each_stack stack in
    let most = most_moment_is _ _ stack events life.most in
    let peak = peak_moment_is peaks.moment events by_peaks.peak in
    let tl = lived_is _ _ _ _ _ _ life.tl_is life.ebk_is in
    let mb = life.most.bytes_are ∙ ap (λ k. life_spec.live_after stack k events) (sym most) in
    let mbk = life.most.blocks_are ∙ ap (λ k. life_spec.blocks_after stack k events) (sym most) in
    let gb = by_peaks.shares stack ∙ ap (λ k. live_in stack (first_events k events)) (sym peak) in
    let gbk = by_peaks.block_shares stack ∙ ap (λ k. blocks_in stack (first_events k events)) (sym peak) in
    let tb = ledger.allocated_is in
    let tbk = ledger.calls_is in
    let eb = ledger.live_is in
    let ebk = ledger.blocks_is in
    cc

-- the figures of all stacks
pub all_figures : (peaks : PeakState) (lifetimes : LifeState) (events : List Event) → peak_spec.StandsFor peaks events
    → life_spec.StandsFor lifetimes events
    → figures_of peaks lifetimes ≡ figures_in events
all_figures peaks lifetimes events by_peaks by_lives = fun_ext (same_figures peaks lifetimes events by_peaks by_lives)
