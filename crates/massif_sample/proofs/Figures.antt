-- The figures of a list of events with one more.
use Rattle.std.proofs.Common.{◌≡◌, ℕ, ◌+◌, List, [], ◌∷◌, ◌++◌, Bool, true, false, cond, max, refl, ap, sym, ◌∙◌, arith}
use Rattle.std.specs.Prelude.{not}
use Rattle.std.proofs.lemmas.Bool.{false≢true}
use Rattle.std.proofs.lemmas.List.Sums.{fold_push, sum_by_push}
use Rattle.live_ledger.specs.declared.event.Event.{Event}
use Rattle.live_ledger.specs.declared.event.Event.TheVariants.{Alloc, Free, Tick}
use Rattle.live_ledger.specs.ByInfo.{alloc_weight, free_weight}
use Rattle.live_ledger.specs.Events.{event_count, is_counted}
use Rattle.massif_file.specs.declared.profile.TimeUnit.{TimeUnit}
use Rattle.massif_file.specs.declared.profile.TimeUnit.TheVariants.{Instructions, Milliseconds, Bytes, Events}
use Rattle.massif_sample.specs.declared.options.MassifOptions.{MassifOptions}
use Rattle.massif_sample.specs.declared.running.Running.{Running}
use Rattle.massif_sample.specs.Counted.{counts}
use Rattle.massif_sample.specs.Gross.{gross}
use Rattle.massif_sample.specs.HeapTotals.{gross_weight, heap_weight}
use Rattle.massif_sample.specs.Places.{gross_at, heap_at, time_at, up_to}
use Rattle.massif_sample.specs.Running.{AreFigures, CanCount, no_figures, passed, past_event, ticked, time_after}
use Rattle.massif_sample.specs.Running.{time_passed, with_alloc, with_event, with_free}
use Rattle.massif_sample.specs.Times.{clock, clock_value, moved_bytes, time_in, time_of}
use Rattle.massif_sample.proofs.Costs.{was-true}
use Rattle.massif_sample.proofs.UpTo.{count-more, count-tick, sum-now, up_to-all, up_to-tick}

-- before any event
pub figures-none : (options : MassifOptions) (ignored : ℕ → Bool) → AreFigures options ignored [] no_figures
unfolding up_to
figures-none options ignored =
    record { place = refl; time = none-in options.unit; clock = refl; heap = refl; gross = refl } where
      none-in : (unit : TimeUnit) → 0 ≡ time_in unit options ignored (up_to 0 [])
      none-in Bytes = refl
      none-in Events = refl
      none-in Milliseconds = refl
      none-in Instructions = refl

-- the clock with one more event
clock-push : (events : List Event) (event : Event)
    → clock (events ++ event ∷ []) ≡ max (clock events) (clock_value event)
clock-push events event = fold_push (λ greatest e. max greatest (clock_value e)) 0 events event

-- the time behind an event of so many gross bytes, which is counted so many times
time_with : TimeUnit → Running → ℕ → ℕ → ℕ
time_with Bytes running bytes more = running.time + bytes
time_with Events running bytes more = running.time + more
time_with Milliseconds running bytes more = running.clock
time_with Instructions running bytes more = running.time

-- the time with one more event that has no clock value
time-push :
    (unit : TimeUnit) (options : MassifOptions) (ignored : ℕ → Bool) (events : List Event) (event : Event)
    (running : Running) (bytes more : ℕ)
    → running.time ≡ time_in unit options ignored (up_to (event_count events) events)
    → running.clock ≡ clock events
    → clock_value event ≡ 0
    → moved_bytes options ignored event ≡ bytes
    → cond {A = ℕ} (counts ignored event) 1 0 ≡ more
    → time_in unit options ignored (events ++ event ∷ []) ≡ time_with unit running bytes more
unfolding time_with
time-push Bytes options ignored events event running bytes more time clock_is no_value moved counted =
    let now = sum-now (moved_bytes options ignored) events (λ ms. refl) in
    let push = sum_by_push (moved_bytes options ignored) events event in
    omega arith
time-push Events options ignored events event running bytes more time clock_is no_value moved counted =
    let now = sum-now (λ (e : Event). cond {A = ℕ} (counts ignored e) 1 0) events (λ ms. refl) in
    let push = sum_by_push (λ (e : Event). cond {A = ℕ} (counts ignored e) 1 0) events event in
    omega arith
time-push Milliseconds options ignored events event running bytes more time clock_is no_value moved counted =
    let push = clock-push events event in
    omega arith
time-push Instructions options ignored events event running bytes more time clock_is no_value moved counted = sym time

-- the time at the place behind it
time-behind :
    (options : MassifOptions) (ignored : ℕ → Bool) (events : List Event) (event : Event) (running : Running)
    (bytes more : ℕ)
    → is_counted event ≡ true
    → AreFigures options ignored events running
    → clock_value event ≡ 0
    → moved_bytes options ignored event ≡ bytes
    → cond {A = ℕ} (counts ignored event) 1 0 ≡ more
    → time_at options ignored (events ++ event ∷ []) (event_count (events ++ event ∷ []))
    ≡ time_with options.unit running bytes more
time-behind options ignored events event running bytes more is figures no_value moved counted =
    ap (time_of options ignored) (up_to-all events event is)
    ∙ time-push options.unit options ignored events event running bytes more figures.time figures.clock no_value moved
    counted

-- counted once, or not
with-once : (unit : TimeUnit) (running : Running) (bytes : ℕ)
    → time_after unit running bytes ≡ time_with unit running bytes 1
unfolding time_with
with-once Bytes running bytes = refl
with-once Events running bytes = refl
with-once Milliseconds running bytes = refl
with-once Instructions running bytes = refl

with-none : (unit : TimeUnit) (running : Running) → time_passed unit running ≡ time_with unit running 0 0
unfolding time_with
with-none Bytes running = omega arith
with-none Events running = omega arith
with-none Milliseconds running = refl
with-none Instructions running = refl

-- what an info of a stack weighs
pub weight-counted : (ignored : ℕ → Bool) (stack bytes : ℕ) → not (ignored stack) ≡ true
    → cond {A = ℕ} (ignored stack) 0 bytes ≡ bytes
weight-counted ignored stack bytes is = by_flag (ignored stack) is where
  by_flag : (b : Bool) → not b ≡ true → cond {A = ℕ} b 0 bytes ≡ bytes
  by_flag true is = absurd (false≢true is)
  by_flag false is = refl

weight-ignored : (ignored : ℕ → Bool) (stack bytes : ℕ) → not (ignored stack) ≡ false
    → cond {A = ℕ} (ignored stack) 0 bytes ≡ 0
weight-ignored ignored stack bytes is = ap (λ (b : Bool). cond {A = ℕ} b 0 bytes) (was-true (ignored stack) is)

-- the figures behind an allocation or a free: what it changes, by how much it weighs
figures-push :
    (options : MassifOptions) (ignored : ℕ → Bool) (events : List Event) (event : Event) (running next : Running)
    (bytes more : ℕ)
    → is_counted event ≡ true
    → clock_value event ≡ 0
    → moved_bytes options ignored event ≡ bytes
    → cond {A = ℕ} (counts ignored event) 1 0 ≡ more
    → next.place ≡ running.place + 1
    → next.time ≡ time_with options.unit running bytes more
    → next.clock ≡ running.clock
    → next.heap + free_weight (heap_weight ignored) event ≡ running.heap + alloc_weight (heap_weight ignored) event
    → next.gross + free_weight (gross_weight options ignored) event
    ≡ running.gross + alloc_weight (gross_weight options ignored) event
    → AreFigures options ignored events running
    → AreFigures options ignored (events ++ event ∷ []) next
figures-push options ignored events event running next bytes more is no_value moved once place_is time_is clock_is
    heap_is gross_is figures = record {
      place = let count = count-more events event is in let was = figures.place in omega arith;
      time = time_is ∙ sym (time-behind options ignored events event running bytes more is figures no_value moved once);
      clock = let push = clock-push events event in let was = figures.clock in omega arith;
      heap =
          let was = figures.heap in
          let allocs = sum_by_push (alloc_weight (heap_weight ignored)) events event in
          let frees = sum_by_push (free_weight (heap_weight ignored)) events event in
          omega arith;
      gross =
          let was = figures.gross in
          let allocs = sum_by_push (alloc_weight (gross_weight options ignored)) events event in
          let frees = sum_by_push (free_weight (gross_weight options ignored)) events event in
          omega arith;
    }

-- with a clock value
figures-tick :
    (options : MassifOptions) (ignored : ℕ → Bool) (events : List Event) (running : Running) (ms : ℕ)
    → AreFigures options ignored events running
    → AreFigures options ignored (events ++ Tick ms ∷ []) (ticked running ms)
figures-tick options ignored events running ms figures = record {
  place = figures.place ∙ sym (count-tick events ms);
  time = figures.time ∙ sym (ap (time_of options ignored) (up_to-tick events ms));
  clock = ap (λ (n : ℕ). max n ms) figures.clock ∙ sym (clock-push events (Tick ms));
  heap =
      let was = figures.heap in
      let allocs = sum_by_push (alloc_weight (heap_weight ignored)) events (Tick ms) in
      let frees = sum_by_push (free_weight (heap_weight ignored)) events (Tick ms) in
      omega arith;
  gross =
      let was = figures.gross in
      let allocs = sum_by_push (alloc_weight (gross_weight options ignored)) events (Tick ms) in
      let frees = sum_by_push (free_weight (gross_weight options ignored)) events (Tick ms) in
      omega arith;
}

-- the figures with an event that is counted
pub figures-counted :
    (options : MassifOptions) (ignored : ℕ → Bool) (events : List Event) (running : Running) (event : Event)
    → counts ignored event ≡ true
    → CanCount options running event
    → AreFigures options ignored events running
    → AreFigures options ignored (events ++ event ∷ []) (with_event options running event)
figures-counted options ignored events running (Alloc info stack size) counted can figures =
    let heap_is = weight-counted ignored stack size counted in
    let gross_is = weight-counted ignored stack (gross options size) counted in
    figures-push options ignored events (Alloc info stack size) running (with_alloc options running size)
    (gross options size) 1 refl refl (omega arith) (ap (λ (b : Bool). cond {A = ℕ} b 1 0) counted)
    refl (with-once options.unit running (gross options size)) refl (omega arith) (omega arith) figures
figures-counted options ignored events running (Free info stack size) counted can figures =
    let heap_is = weight-counted ignored stack size counted in
    let gross_is = weight-counted ignored stack (gross options size) counted in
    let heap_within = can.heap in
    let gross_within = can.gross_within in
    figures-push options ignored events (Free info stack size) running (with_free options running size)
    (gross options size) 1 refl refl (omega arith) (ap (λ (b : Bool). cond {A = ℕ} b 1 0) counted)
    refl (with-once options.unit running (gross options size)) refl (omega arith) (omega arith) figures
figures-counted options ignored events running (Tick ms) counted can figures = absurd (false≢true counted)

-- with one that isn't counted, which weighs nothing
figures-idle :
    (options : MassifOptions) (ignored : ℕ → Bool) (events : List Event) (event : Event) (running : Running)
    → is_counted event ≡ true
    → clock_value event ≡ 0
    → counts ignored event ≡ false
    → moved_bytes options ignored event ≡ 0
    → free_weight (heap_weight ignored) event ≡ alloc_weight (heap_weight ignored) event
    → free_weight (gross_weight options ignored) event ≡ alloc_weight (gross_weight options ignored) event
    → AreFigures options ignored events running
    → AreFigures options ignored (events ++ event ∷ []) (passed options running)
figures-idle options ignored events event running is no_value none moved heap_is gross_is figures =
    figures-push options ignored events event running (passed options running) 0 0 is no_value moved
    (ap (λ (b : Bool). cond {A = ℕ} b 1 0) none) refl (with-none options.unit running) refl (omega arith) (omega arith)
    figures

-- and with any that isn't counted
pub figures-passed :
    (options : MassifOptions) (ignored : ℕ → Bool) (events : List Event) (running : Running) (event : Event)
    → counts ignored event ≡ false
    → AreFigures options ignored events running
    → AreFigures options ignored (events ++ event ∷ []) (past_event options running event)
figures-passed options ignored events running (Alloc info stack size) none figures =
    let heap_is = weight-ignored ignored stack size none in
    let gross_is = weight-ignored ignored stack (gross options size) none in
    figures-idle options ignored events (Alloc info stack size) running refl refl none (omega arith) (omega arith)
    (omega arith) figures
figures-passed options ignored events running (Free info stack size) none figures =
    let heap_is = weight-ignored ignored stack size none in
    let gross_is = weight-ignored ignored stack (gross options size) none in
    figures-idle options ignored events (Free info stack size) running refl refl none (omega arith) (omega arith)
    (omega arith) figures
figures-passed options ignored events running (Tick ms) none figures =
    figures-tick options ignored events running ms figures

-- the live bytes at the last place are those of the figures
pub heap-now : (options : MassifOptions) (ignored : ℕ → Bool) (events : List Event) (running : Running)
    → AreFigures options ignored events running → running.heap ≡ heap_at ignored events (event_count events)
heap-now options ignored events running figures =
    let was = figures.heap in
    let allocs = sum-now (alloc_weight (heap_weight ignored)) events (λ ms. refl) in
    let frees = sum-now (free_weight (heap_weight ignored)) events (λ ms. refl) in
    omega arith

pub gross-now : (options : MassifOptions) (ignored : ℕ → Bool) (events : List Event) (running : Running)
    → AreFigures options ignored events running → running.gross ≡ gross_at options ignored events (event_count events)
gross-now options ignored events running figures =
    let was = figures.gross in
    let allocs = sum-now (alloc_weight (gross_weight options ignored)) events (λ ms. refl) in
    let frees = sum-now (free_weight (gross_weight options ignored)) events (λ ms. refl) in
    omega arith
