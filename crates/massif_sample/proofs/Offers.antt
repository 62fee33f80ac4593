-- The offers of a list of events with one more.
use Rattle.std.proofs.Common.{◌≡◌, ℕ, zero, suc, ◌+◌, ◌<◌, ◌≤◌, List, [], ◌∷◌, ◌++◌, length, Bool, true, false, cond}
use Rattle.std.proofs.Common.{refl, ap, sym, subst, ◌∙◌, arith, add-one, append-nil}
use Rattle.std.specs.Prelude.{flat_map, slice_get, Option, Some, None}
use Rattle.std.specs.List.{range_with_len}
use Rattle.std.specs.Option.{option_map_or}
use Rattle.std.proofs.lemmas.List.Concat.{flat_map-append}
use Rattle.std.proofs.lemmas.List.Elements.{filter-append}
use Rattle.std.proofs.lemmas.List.Sums.{length-filter}
use Rattle.ht_trace.specs.TableState.{TableState}
use Rattle.live_ledger.specs.declared.event.Event.{Event}
use Rattle.live_ledger.specs.declared.event.Event.TheVariants.{Tick}
use Rattle.live_ledger.specs.Events.{counted, event_count, is_counted, is_free}
use Rattle.massif_cull.specs.declared.snapshot.Offer.{Offer}
use Rattle.massif_sample.specs.declared.options.MassifOptions.{MassifOptions}
use Rattle.massif_sample.specs.declared.running.Running.{Running}
use Rattle.massif_sample.specs.Counted.{counts}
use Rattle.massif_sample.specs.FunctionNames.{FunctionNames, ignores}
use Rattle.massif_sample.specs.HeapTotals.{gross_total}
use Rattle.massif_sample.specs.Offers.{offer_at, offers, offers_behind, offers_of_event}
use Rattle.massif_sample.specs.Places.{time_at}
use Rattle.massif_sample.specs.Running.{AreFigures}
use Rattle.massif_sample.specs.SamplesState.{SamplesState}
use Rattle.massif_sample.specs.StandsFor.{IsSampling}
use Rattle.massif_sample.specs.Times.{time_of}
use Rattle.massif_sample.specs.View.{offer_of}
use Rattle.massif_sample.proofs.Figures.{gross-now}
use Rattle.massif_sample.proofs.UpTo.{count-more, count-tick, up_to-front}

-- the offer of the present place
pub offer-now : (options : MassifOptions) (ignored : ℕ → Bool) (events : List Event) (running : Running)
    (as_peak : Bool)
    → AreFigures options ignored events running
    → offer_of running as_peak ≡ offer_at options ignored events as_peak (event_count events)
offer-now options ignored events running as_peak figures =
    let place = figures.place in
    let time = figures.time in
    let gross = gross-now options ignored events running figures in
    let made = λ (k t g : ℕ). let offer : Offer = record { place = k; time = t; total = g; peak = as_peak } in offer in
    ap (λ (k : ℕ). made k running.time running.gross) place
    ∙ ap (λ (t : ℕ). made (event_count events) t running.gross) time
    ∙ ap (λ (g : ℕ). made (event_count events) (time_at options ignored events (event_count events)) g) gross

-- so what is true of the one that samples make now is true of it
pub offered-now : (P : Offer → Type 0) {samples : SamplesState} {names : FunctionNames} {tables : TableState}
    {events : List Event} {made : List Offer} (as_peak : Bool)
    → IsSampling samples names tables events made → P (offer_of samples.running as_peak)
    → P (offer_at samples.options (ignores tables names) events as_peak (event_count events))
offered-now P {samples} {names} {tables} {events} as_peak was is =
    subst P (offer-now samples.options (ignores tables names) events samples.running as_peak was.figures) is

-- an offer at a place that was passed stays
pub offer-front : (options : MassifOptions) (ignored : ℕ → Bool) (events more : List Event) (as_peak : Bool) (k : ℕ)
    → k ≤ event_count events
    → offer_at options ignored (events ++ more) as_peak k ≡ offer_at options ignored events as_peak k
offer-front options ignored events more as_peak k within =
    ap (λ (es : List Event). let offer : Offer = record {
      place = k;
      time = time_of options ignored es;
      total = gross_total options ignored es;
      peak = as_peak;
    } in offer) (up_to-front
    k events more within)

-- an element that is there stays as more are appended
slice_get-more : {X : Type 0} (xs more : List X) (i : ℕ) → i < length xs → slice_get (xs ++ more) i ≡ slice_get xs i
slice_get-more [] more i within = absurd (omega (arith, within))
slice_get-more (x ∷ xs) more zero within = refl
slice_get-more (x ∷ xs) more (suc i) within = slice_get-more xs more i (omega arith)

-- and behind them is the next
slice_get-next : {X : Type 0} (xs : List X) (y : X) (i : ℕ) → i ≡ length xs → slice_get (xs ++ y ∷ []) i ≡ Some y
slice_get-next [] y zero is = refl
slice_get-next [] y (suc i) is = absurd (omega arith)
slice_get-next (x ∷ xs) y zero is = absurd (omega arith)
slice_get-next (x ∷ xs) y (suc i) is = slice_get-next xs y i (omega arith)

-- a range with one more
range-more : (a n : ℕ) → range_with_len a (suc n) ≡ range_with_len a n ++ (a + n) ∷ []
range-more a zero = ap (λ (k : ℕ). k ∷ []) (let same : a ≡ a + 0 = omega arith in same)
range-more a (suc n) =
    ap (λ (ks : List ℕ). a ∷ ks) (range-more (a + 1) n)
    ∙ ap (λ (k : ℕ). a ∷ (range_with_len (a + 1) n ++ k ∷ [])) (let same : a + 1 + n ≡ a + suc n = omega arith in same)

-- functions that agree over a range
range-same : {X : Type 0} (f g : ℕ → List X) (a n : ℕ) → ((k : ℕ) → a ≤ k → k < a + n → f k ≡ g k)
    → flat_map f (range_with_len a n) ≡ flat_map g (range_with_len a n)
range-same f g a zero same = refl
range-same {X} f g a (suc n) same =
    ap (λ (xs : List X). xs ++ flat_map f (range_with_len (a + 1) n)) (same a (omega arith) (omega arith))
    ∙ ap (λ (xs : List X). g a ++ xs) (range-same f g (a + 1) n (λ k low high. same k (omega arith) (omega arith)))

-- the offers between two places that were passed stay
behind-front : (options : MassifOptions) (ignored : ℕ → Bool) (events more : List Event) (k : ℕ)
    → k < event_count events → offers_behind options ignored (events ++ more) k ≡ offers_behind options ignored events k
behind-front options ignored events more k within =
    let found : slice_get (counted (events ++ more)) k ≡ slice_get (counted events) k =
    ap (λ (es : List Event). slice_get es k) (filter-append is_counted events more)
    ∙ slice_get-more (counted events) (counted more) k (let count = length-filter is_counted events in omega arith) in
    ap (λ (e : Option Event). option_map_or (λ event. offers_of_event options ignored (events ++ more) event k) e [])
    found
    ∙ by_event (slice_get (counted events) k)
  where
    made : Bool → Bool → Offer → Offer → List Offer
    made is_counted is_free peak normal = cond is_counted (cond is_free (peak ∷ []) [] ++ normal ∷ []) []

    by_event : (e : Option Event)
        → option_map_or (λ event. offers_of_event options ignored (events ++ more) event k) e []
        ≡ option_map_or (λ event. offers_of_event options ignored events event k) e []
    by_event None = refl
    by_event (Some event) =
        ap (λ (o : Offer). made (counts ignored event) (is_free event) o
        (offer_at options ignored (events ++ more) false (k + 1))) (offer-front
        options ignored events more true k (omega arith))
        ∙ ap (λ (o : Offer). made (counts ignored event) (is_free event) (offer_at options ignored events true k) o)
        (offer-front options ignored events more false (k + 1) (omega arith))

-- those up to the last place
offers-front : (options : MassifOptions) (ignored : ℕ → Bool) (events more : List Event)
    → offer_at options ignored (events ++ more) false 0
    ∷ flat_map (offers_behind options ignored (events ++ more)) (range_with_len 0 (event_count events))
    ≡ offers options ignored events
unfolding offers
offers-front options ignored events more =
    ap (λ (o : Offer). o
    ∷ flat_map (offers_behind options ignored (events ++ more)) (range_with_len 0 (event_count events)))
    (offer-front
    options ignored events more false 0 (omega arith))
    ∙ ap (λ (os : List Offer). offer_at options ignored events false 0 ∷ os)
    (range-same (offers_behind options ignored (events ++ more)) (offers_behind options ignored events) 0
    (event_count events) (λ k low high. behind-front options ignored events more k (omega arith)))

-- a clock value brings none
pub offers-tick : (options : MassifOptions) (ignored : ℕ → Bool) (events : List Event) (ms : ℕ)
    → offers options ignored (events ++ Tick ms ∷ []) ≡ offers options ignored events
unfolding offers
offers-tick options ignored events ms =
    ap (λ (n : ℕ). offer_at options ignored (events ++ Tick ms ∷ []) false 0
    ∷ flat_map (offers_behind options ignored (events ++ Tick ms ∷ [])) (range_with_len 0 n)) (count-tick
    events ms)
    ∙ offers-front options ignored events (Tick ms ∷ [])

-- an allocation or a free brings its own
pub offers-event : (options : MassifOptions) (ignored : ℕ → Bool) (events : List Event) (event : Event)
    → is_counted event ≡ true
    → offers options ignored (events ++ event ∷ [])
    ≡ offers options ignored events ++ offers_of_event options ignored (events ++ event ∷ []) event (event_count events)
unfolding offers
offers-event options ignored events event is =
    let after : List Event = events ++ event ∷ [] in
    let n : ℕ = event_count events in
    let found : slice_get (counted after) n ≡ Some event =
    ap (λ (es : List Event). slice_get es n)
    (filter-append is_counted events (event ∷ []) ∙ ap (λ (b : Bool). counted events ++ cond b (event ∷ []) []) is)
    ∙ slice_get-next (counted events) event n (sym (length-filter is_counted events)) in
    ap (λ (k : ℕ). offer_at options ignored after false 0
    ∷ flat_map (offers_behind options ignored after) (range_with_len 0 k)) (count-more
    events event is
    ∙ add-one n)
    ∙ ap (λ (ks : List ℕ). offer_at options ignored after false 0 ∷ flat_map (offers_behind options ignored after) ks)
    (range-more 0 n)
    ∙ ap (λ (os : List Offer). offer_at options ignored after false 0 ∷ os)
    (flat_map-append (offers_behind options ignored after) (range_with_len 0 n) ((0 + n) ∷ []))
    ∙ ap (λ (os : List Offer). os ++ (offers_behind options ignored after (0 + n) ++ []))
    (offers-front options ignored events (event ∷ []))
    ∙ ap (λ (os : List Offer). offers options ignored events ++ os)
    (append-nil (offers_behind options ignored after (0 + n)))
    ∙ ap (λ (k : ℕ). offers options ignored events ++ offers_behind options ignored after k)
    (let same : 0 + n ≡ n = omega arith in same)
    ∙ ap (λ (e : Option Event). offers options ignored events
    ++ option_map_or (λ (one : Event). offers_of_event options ignored after one n) e []) found
