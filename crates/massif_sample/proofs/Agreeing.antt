-- Two ways to ignore stacks that agree on the stacks of some events: all figures of the events are the same.
use Rattle.std.proofs.Common.{◌≡◌, ℕ, zero, suc, ◌+◌, ◌-◌, List, [], ◌∷◌, ◌++◌, Bool, true, false, cond, refl, ap, ◌∙◌}
use Rattle.std.proofs.Common.{arith}
use Rattle.std.specs.Prelude.{not, slice_get, sum_by}
use Rattle.std.specs.List.{AllByRecursion, flat_map, range_with_len}
use Rattle.std.specs.Option.{option_map_or}
use Rattle.std.proofs.lemmas.List.Sums.{sum_by-cons}
use Rattle.live_ledger.specs.declared.event.Event.{Event}
use Rattle.live_ledger.specs.declared.event.Event.TheVariants.{Alloc, Free, Tick}
use Rattle.live_ledger.specs.ByInfo.{alloc_weight, free_weight}
use Rattle.live_ledger.specs.Events.{counted, event_count, is_free}
use Rattle.massif_cull.specs.declared.snapshot.Offer.{Offer}
use Rattle.massif_file.specs.declared.profile.TimeUnit.{TimeUnit}
use Rattle.massif_file.specs.declared.profile.TimeUnit.TheVariants.{Instructions, Milliseconds, Bytes, Events}
use Rattle.massif_sample.specs.declared.options.MassifOptions.{MassifOptions}
use Rattle.massif_sample.specs.Counted.{counts}
use Rattle.massif_sample.specs.Gross.{gross}
use Rattle.massif_sample.specs.HeapTotals.{gross_weight, heap_weight}
use Rattle.massif_sample.specs.Offers.{offer_at, offers, offers_behind, offers_of_event, peak_before}
use Rattle.massif_sample.specs.Places.{gross_at, heap_at, time_at, up_to}
use Rattle.massif_sample.specs.Running.{AreFigures}
use Rattle.massif_sample.specs.Times.{moved_bytes, time_in}
use Rattle.massif_sample.specs.declared.running.Running.{Running}

-- they agree on the stack of an event
abbrev pub AgreeAt : (ℕ → Bool) → (ℕ → Bool) → Event → Type 0
AgreeAt f g (Alloc info stack size) = f stack ≡ g stack
AgreeAt f g (Free info stack size) = f stack ≡ g stack
AgreeAt f g (Tick ms) = Unit {0}

-- they agree on the stack of each
abbrev pub Agree : (ℕ → Bool) → (ℕ → Bool) → List Event → Type 0
Agree f g events = AllByRecursion (AgreeAt f g) events

-- so it is up to a place, and of the allocations and frees alone
pub agree-up_to : (f g : ℕ → Bool) (k : ℕ) (events : List Event) → Agree f g events → Agree f g (up_to k events)
unfolding up_to
agree-up_to f g zero events agree = tt
agree-up_to f g (suc k) [] agree = tt
agree-up_to f g (suc k) (Alloc i s z ∷ es) agree = (agree.0, agree-up_to f g k es agree.1)
agree-up_to f g (suc k) (Free i s z ∷ es) agree = (agree.0, agree-up_to f g k es agree.1)
agree-up_to f g (suc k) (Tick ms ∷ es) agree = (tt, agree-up_to f g (suc k) es agree.1)

agree-counted : (f g : ℕ → Bool) (events : List Event) → Agree f g events → Agree f g (counted events)
agree-counted f g [] agree = tt
agree-counted f g (Alloc i s z ∷ es) agree = (agree.0, agree-counted f g es agree.1)
agree-counted f g (Free i s z ∷ es) agree = (agree.0, agree-counted f g es agree.1)
agree-counted f g (Tick ms ∷ es) agree = agree-counted f g es agree.1

-- sums of what events agree on
sum-same : (f g : ℕ → Bool) (v w : Event → ℕ) (events : List Event) → ((e : Event) → AgreeAt f g e → v e ≡ w e)
    → Agree f g events → sum_by v events ≡ sum_by w events
sum-same f g v w [] same agree = refl
sum-same f g v w (e ∷ es) same agree =
    let here = same e agree.0 in
    let rest = sum-same f g v w es same agree.1 in
    let left = sum_by-cons v e es in
    let right = sum_by-cons w e es in
    omega arith

counts-same : (f g : ℕ → Bool) (e : Event) → AgreeAt f g e → counts f e ≡ counts g e
counts-same f g (Alloc i s z) agree = ap not agree
counts-same f g (Free i s z) agree = ap not agree
counts-same f g (Tick ms) agree = refl

heap_alloc-same : (f g : ℕ → Bool) (e : Event) → AgreeAt f g e
    → alloc_weight (heap_weight f) e ≡ alloc_weight (heap_weight g) e
heap_alloc-same f g (Alloc i s z) agree = ap (λ (b : Bool). cond {A = ℕ} b 0 z) agree
heap_alloc-same f g (Free i s z) agree = refl
heap_alloc-same f g (Tick ms) agree = refl

heap_free-same : (f g : ℕ → Bool) (e : Event) → AgreeAt f g e
    → free_weight (heap_weight f) e ≡ free_weight (heap_weight g) e
heap_free-same f g (Alloc i s z) agree = refl
heap_free-same f g (Free i s z) agree = ap (λ (b : Bool). cond {A = ℕ} b 0 z) agree
heap_free-same f g (Tick ms) agree = refl

gross_alloc-same : (options : MassifOptions) (f g : ℕ → Bool) (e : Event) → AgreeAt f g e
    → alloc_weight (gross_weight options f) e ≡ alloc_weight (gross_weight options g) e
gross_alloc-same options f g (Alloc i s z) agree = ap (λ (b : Bool). cond {A = ℕ} b 0 (gross options z)) agree
gross_alloc-same options f g (Free i s z) agree = refl
gross_alloc-same options f g (Tick ms) agree = refl

gross_free-same : (options : MassifOptions) (f g : ℕ → Bool) (e : Event) → AgreeAt f g e
    → free_weight (gross_weight options f) e ≡ free_weight (gross_weight options g) e
gross_free-same options f g (Alloc i s z) agree = refl
gross_free-same options f g (Free i s z) agree = ap (λ (b : Bool). cond {A = ℕ} b 0 (gross options z)) agree
gross_free-same options f g (Tick ms) agree = refl

-- the live bytes at a place
pub heap_at-same : (f g : ℕ → Bool) (events : List Event) (k : ℕ) → Agree f g events
    → heap_at f events k ≡ heap_at g events k
heap_at-same f g events k agree =
    let upto = agree-up_to f g k events agree in
    let allocated =
    sum-same f g (alloc_weight (heap_weight f)) (alloc_weight (heap_weight g)) (up_to k events) (heap_alloc-same f g)
    upto in
    let freed =
    sum-same f g (free_weight (heap_weight f)) (free_weight (heap_weight g)) (up_to k events) (heap_free-same f g)
    upto in
    ap (λ (n : ℕ). n - sum_by (free_weight (heap_weight f)) (up_to k events)) allocated
    ∙ ap (λ (n : ℕ). sum_by (alloc_weight (heap_weight g)) (up_to k events) - n) freed

pub gross_at-same : (options : MassifOptions) (f g : ℕ → Bool) (events : List Event) (k : ℕ) → Agree f g events
    → gross_at options f events k ≡ gross_at options g events k
gross_at-same options f g events k agree =
    let upto = agree-up_to f g k events agree in
    let allocated =
    sum-same f g (alloc_weight (gross_weight options f)) (alloc_weight (gross_weight options g)) (up_to k events)
    (gross_alloc-same options f g) upto in
    let freed =
    sum-same f g (free_weight (gross_weight options f)) (free_weight (gross_weight options g)) (up_to k events)
    (gross_free-same options f g) upto in
    ap (λ (n : ℕ). n - sum_by (free_weight (gross_weight options f)) (up_to k events)) allocated
    ∙ ap (λ (n : ℕ). sum_by (alloc_weight (gross_weight options g)) (up_to k events) - n) freed

time_in-same : (unit : TimeUnit) (options : MassifOptions) (f g : ℕ → Bool) (events : List Event) → Agree f g events
    → time_in unit options f events ≡ time_in unit options g events
time_in-same Bytes options f g events agree =
    sum-same f g (moved_bytes options f) (moved_bytes options g) events
    (λ e at.
    let allocated = gross_alloc-same options f g e at in
    let freed = gross_free-same options f g e at in
    omega arith) agree
time_in-same Events options f g events agree =
    sum-same f g (λ (e : Event). cond {A = ℕ} (counts f e) 1 0) (λ (e : Event). cond {A = ℕ} (counts g e) 1 0) events
    (λ e at. ap (λ (b : Bool). cond {A = ℕ} b 1 0) (counts-same f g e at)) agree
time_in-same Milliseconds options f g events agree = refl
time_in-same Instructions options f g events agree = refl

-- and the time there
pub time_at-same : (options : MassifOptions) (f g : ℕ → Bool) (events : List Event) (k : ℕ) → Agree f g events
    → time_at options f events k ≡ time_at options g events k
time_at-same options f g events k agree =
    time_in-same options.unit options f g (up_to k events) (agree-up_to f g k events agree)

offer_at-same : (options : MassifOptions) (f g : ℕ → Bool) (events : List Event) (as_peak : Bool) (k : ℕ)
    → Agree f g events → offer_at options f events as_peak k ≡ offer_at options g events as_peak k
offer_at-same options f g events as_peak k agree =
    let offer : ℕ → ℕ → Offer = λ time total. record { place = k; time = time; total = total; peak = as_peak } in
    ap (λ (time : ℕ). offer time (gross_at options f events k)) (time_at-same options f g events k agree)
    ∙ ap (λ (total : ℕ). offer (time_at options g events k) total) (gross_at-same options f g events k agree)

-- the offers of one event
event-offers : (options : MassifOptions) (f g : ℕ → Bool) (events : List Event) (e : Event) (k : ℕ) → Agree f g events
    → AgreeAt f g e → offers_of_event options f events e k ≡ offers_of_event options g events e k
event-offers options f g events e k agree at =
    let made : (ℕ → Bool) → List Offer =
    λ h. peak_before options h events e k ++ offer_at options h events false (k + 1) ∷ [] in
    let peaks : peak_before options f events e k ≡ peak_before options g events e k =
    ap (λ (o : Offer). cond (is_free e) (o ∷ []) []) (offer_at-same options f g events true k agree) in
    ap (λ (b : Bool). cond b (made f) []) (counts-same f g e at)
    ∙ ap (λ (os : List Offer). cond (counts g e) (os ++ offer_at options f events false (k + 1) ∷ []) []) peaks
    ∙ ap (λ (o : Offer). cond (counts g e) (peak_before options g events e k ++ o ∷ []) [])
    (offer_at-same options f g events false (k + 1) agree)

-- functions that agree on the element at a place
at-same : {Y : Type 0} (f g : ℕ → Bool) (v w : Event → Y) (d : Y) (events : List Event) (k : ℕ)
    → ((e : Event) → AgreeAt f g e → v e ≡ w e) → Agree f g events
    → option_map_or v (slice_get events k) d ≡ option_map_or w (slice_get events k) d
at-same f g v w d [] k same agree = refl
at-same f g v w d (e ∷ es) zero same agree = same e agree.0
at-same f g v w d (e ∷ es) (suc k) same agree = at-same f g v w d es k same agree.1

map-all : (v w : ℕ → List Offer) (ks : List ℕ) → ((k : ℕ) → v k ≡ w k) → flat_map v ks ≡ flat_map w ks
map-all v w [] same = refl
map-all v w (k ∷ ks) same =
    ap (λ (os : List Offer). os ++ flat_map v ks) (same k) ∙ ap (λ (os : List Offer). w k ++ os) (map-all v w ks same)

-- all offers
pub offers-same : (options : MassifOptions) (f g : ℕ → Bool) (events : List Event) → Agree f g events
    → offers options f events ≡ offers options g events
unfolding offers
offers-same options f g events agree =
    ap (λ (o : Offer). o ∷ flat_map (offers_behind options f events) (range_with_len 0 (event_count events)))
    (offer_at-same options f g events false 0 agree)
    ∙ ap (λ (os : List Offer). offer_at options g events false 0 ∷ os)
    (map-all (offers_behind options f events) (offers_behind options g events) (range_with_len 0 (event_count events))
    (λ k. at-same f g (λ e. offers_of_event options f events e k) (λ e. offers_of_event options g events e k) []
    (counted events) k
    (λ e at. event-offers options f g events e k agree at) (agree-counted f g events agree)))

-- the figures that are kept up
pub figures-same : (options : MassifOptions) (f g : ℕ → Bool) (events : List Event) (running : Running)
    → Agree f g events → AreFigures options f events running → AreFigures options g events running
figures-same options f g events running agree figures =
    let heap_allocated =
    sum-same f g (alloc_weight (heap_weight f)) (alloc_weight (heap_weight g)) events (heap_alloc-same f g) agree in
    let heap_freed =
    sum-same f g (free_weight (heap_weight f)) (free_weight (heap_weight g)) events (heap_free-same f g) agree in
    let gross_allocated =
    sum-same f g (alloc_weight (gross_weight options f)) (alloc_weight (gross_weight options g)) events
    (gross_alloc-same options f g) agree in
    let gross_freed =
    sum-same f g (free_weight (gross_weight options f)) (free_weight (gross_weight options g)) events
    (gross_free-same options f g) agree in
    let heap_was = figures.heap in
    let gross_was = figures.gross in
    record {
      place = figures.place;
      time = figures.time ∙ time_at-same options f g events (event_count events) agree;
      clock = figures.clock;
      heap = omega arith;
      gross = omega arith;
    }
