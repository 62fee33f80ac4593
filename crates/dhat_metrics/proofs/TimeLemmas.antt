-- Lists of events with one more: the allocations and frees, their times, and what stands live.
use Rattle.std.proofs.Common.{suc, ◌≡◌, ℕ, ◌+◌, ◌≤◌, List, [], ◌∷◌, ◌++◌, length, take, Bool, true, cond, refl, sym, ap}
use Rattle.std.proofs.Common.{◌∙◌, add-zero, append-nil, rules, arith}
use Rattle.std.specs.Prelude.{sum_by}
use Rattle.std.specs.List.{range_with_len, zip}
use Rattle.std.proofs.lemmas.List.{take-append-le, take_all}
use Rattle.std.proofs.lemmas.List.Elements.{filter-append}
use Rattle.std.proofs.lemmas.List.Sums.{length-filter, sum_by-cons, sum_by_push}
use Rattle.live_ledger.specs.declared.event.Event.{Event}
use Rattle.live_ledger.specs.declared.event.Event.TheVariants.{Alloc, Free, Tick}
use Rattle.live_ledger.specs.Events.{counted, event_count, is_counted}
use Rattle.live_ledger.specs.InStack.{alloc_size_in, allocated_in, blocks_in, calls_in, free_size_in, freed_in}
use Rattle.live_ledger.specs.InStack.{frees_in, is_alloc_in, is_free_in, live_in}
use Rattle.live_ledger.specs.LiveBytes.{alloc_size, allocated_bytes}
use Rattle.dhat_metrics.specs.Times.{alloc_times, free_times, timed}
use Rattle.dhat_metrics.specs.StandsFor.{blocks_after, live_after}

-- a counted event stands at the end of the counted ones
pub counted-push : (events : List Event) (event : Event) → is_counted event ≡ true
    → counted (events ++ event ∷ []) ≡ counted events ++ event ∷ []
counted-push events (Alloc i s z) is = filter-append is_counted events (Alloc i s z ∷ [])
counted-push events (Free i s z) is = filter-append is_counted events (Free i s z ∷ [])
counted-push events (Tick ms) is = cc

-- a clock value doesn't
pub counted-tick : (events : List Event) (ms : ℕ) → counted (events ++ Tick ms ∷ []) ≡ counted events
counted-tick events ms = filter-append is_counted events (Tick ms ∷ []) ∙ append-nil (counted events)

-- there is one more event
pub count-push : (events : List Event) (event : Event) → is_counted event ≡ true
    → event_count (events ++ event ∷ []) ≡ event_count events + 1
count-push events event is =
    sum_by_push (λ (e : Event). cond {A = ℕ} (is_counted e) 1 0) events event
    ∙ ap (λ (b : Bool). event_count events + cond {A = ℕ} b 1 0) is

pub count-length : (events : List Event) → length (counted events) ≡ event_count events
count-length events = length-filter is_counted events

-- elements beside their numbers, with one element more
numbered-push : (xs : List Event) (x : Event) (a : ℕ)
    → zip (range_with_len a (length (xs ++ x ∷ []))) (xs ++ x ∷ [])
    ≡ zip (range_with_len a (length xs)) xs ++ (a + length xs, x) ∷ []
numbered-push [] x a = ap (λ (n : ℕ). (n, x) ∷ []) (sym (add-zero a))
numbered-push (y ∷ xs) x a =
    let tail = numbered-push xs x (a + 1) in
    let place : a + 1 + length xs ≡ a + suc (length xs) = omega arith in
    ap (λ (zs : List (ℕ × Event)). (a, y) ∷ zs)
    (tail ∙ ap (λ (n : ℕ). zip (range_with_len (a + 1) (length xs)) xs ++ (n, x) ∷ []) place)

-- the newest event has the time of the count
pub timed-push : (events : List Event) (event : Event) → is_counted event ≡ true
    → timed (events ++ event ∷ []) ≡ timed events ++ (1 + event_count events, event) ∷ []
timed-push events event is =
    ap (λ (xs : List Event). zip (range_with_len 1 (length xs)) xs) (counted-push events event is)
    ∙ numbered-push (counted events) event 1
    ∙ ap (λ (n : ℕ). timed events ++ (1 + n, event) ∷ []) (count-length events)

pub timed-tick : (events : List Event) (ms : ℕ) → timed (events ++ Tick ms ∷ []) ≡ timed events
timed-tick events ms = ap (λ (xs : List Event). zip (range_with_len 1 (length xs)) xs) (counted-tick events ms)

-- a sum of times with one event more
times-push : (meant : Event → Bool) (events : List Event) (event : Event) → is_counted event ≡ true
    → sum_by (λ (pair : ℕ × Event). cond {A = ℕ} (meant pair.1) pair.0 0) (timed (events ++ event ∷ []))
    ≡ sum_by (λ (pair : ℕ × Event). cond {A = ℕ} (meant pair.1) pair.0 0) (timed events)
    + cond {A = ℕ} (meant event) (1 + event_count events) 0
times-push meant events event is =
    ap (λ (xs : List (ℕ × Event)). sum_by (λ (pair : ℕ × Event). cond {A = ℕ} (meant pair.1) pair.0 0) xs)
    (timed-push events event is)
    ∙ sum_by_push (λ (pair : ℕ × Event). cond {A = ℕ} (meant pair.1) pair.0 0) (timed events)
    (1 + event_count events, event)

pub alloc_times-push : (n : ℕ) (events : List Event) (event : Event) → is_counted event ≡ true
    → alloc_times n (events ++ event ∷ [])
    ≡ alloc_times n events + cond {A = ℕ} (is_alloc_in n event) (1 + event_count events) 0
alloc_times-push n events event is = times-push (is_alloc_in n) events event is

pub free_times-push : (n : ℕ) (events : List Event) (event : Event) → is_counted event ≡ true
    → free_times n (events ++ event ∷ [])
    ≡ free_times n events + cond {A = ℕ} (is_free_in n event) (1 + event_count events) 0
free_times-push n events event is = times-push (is_free_in n) events event is

-- the first events of a list stay when one more comes
pub first-before : (k : ℕ) (events : List Event) (event : Event) → is_counted event ≡ true → k ≤ event_count events
    → take k (counted (events ++ event ∷ [])) ≡ take k (counted events)
first-before k events event is within =
    ap (λ (xs : List Event). take k xs) (counted-push events event is)
    ∙ take-append-le k (counted events) (event ∷ []) (let count = count-length events in omega arith)

-- the first events, as many as there are, are all
pub first-all : (k : ℕ) (events : List Event) → k ≡ event_count events → take k (counted events) ≡ counted events
first-all k events is = take_all k (counted events) (let count = count-length events in omega arith)

-- clock values add nothing to a sum in which they have nothing
sum-counted : (f : Event → ℕ) (events : List Event) → ((ms : ℕ) → f (Tick ms) ≡ 0)
    → sum_by f (counted events) ≡ sum_by f events
sum-counted f [] none = refl
sum-counted f (Alloc i s z ∷ rest) none =
    sum_by-cons f (Alloc i s z) (counted rest) ∙ ap (λ (n : ℕ). f (Alloc i s z) + n) (sum-counted f rest none)
    ∙ sym (sum_by-cons f (Alloc i s z) rest)
sum-counted f (Free i s z ∷ rest) none =
    sum_by-cons f (Free i s z) (counted rest) ∙ ap (λ (n : ℕ). f (Free i s z) + n) (sum-counted f rest none)
    ∙ sym (sum_by-cons f (Free i s z) rest)
sum-counted f (Tick ms ∷ rest) none =
    let here = none ms in
    let tail = sum-counted f rest none in
    omega (arith, sum_by-cons f (Tick ms) rest, here, tail)

pub live-counted : (n : ℕ) (events : List Event) → live_in n (counted events) ≡ live_in n events
live-counted n events =
    let allocated : allocated_in n (counted events) ≡ allocated_in n events =
    sum-counted (alloc_size_in n) events (λ ms. refl) in
    let freed : freed_in n (counted events) ≡ freed_in n events = sum-counted (free_size_in n) events (λ ms. refl) in
    omega arith

pub blocks-counted : (n : ℕ) (events : List Event) → blocks_in n (counted events) ≡ blocks_in n events
blocks-counted n events =
    let calls : calls_in n (counted events) ≡ calls_in n events =
    sum-counted (λ (e : Event). cond {A = ℕ} (is_alloc_in n e) 1 0) events (λ ms. refl) in
    let frees : frees_in n (counted events) ≡ frees_in n events =
    sum-counted (λ (e : Event). cond {A = ℕ} (is_free_in n e) 1 0) events (λ ms. refl) in
    omega arith

-- what a stack has live after all events
pub live-all : (n k : ℕ) (events : List Event) → k ≡ event_count events → live_after n k events ≡ live_in n events
live-all n k events is = ap (λ (xs : List Event). live_in n xs) (first-all k events is) ∙ live-counted n events

pub blocks-all : (n k : ℕ) (events : List Event) → k ≡ event_count events → blocks_after n k events ≡ blocks_in n events
blocks-all n k events is = ap (λ (xs : List Event). blocks_in n xs) (first-all k events is) ∙ blocks-counted n events

-- a stack allocates no more than all of them
size-within : (n : ℕ) (event : Event) → alloc_size_in n event ≤ alloc_size event
size-within n (Alloc info stack size) = search (arith, rules)
size-within n (Free info stack size) = omega arith
size-within n (Tick ms) = omega arith

pub allocated-within : (n : ℕ) (events : List Event) → allocated_in n events ≤ allocated_bytes events
allocated-within n [] = omega arith
allocated-within n (event ∷ rest) =
    let here = size-within n event in
    let tail = allocated-within n rest in
    omega (arith, sum_by-cons (alloc_size_in n) event rest, sum_by-cons alloc_size event rest, here, tail)
