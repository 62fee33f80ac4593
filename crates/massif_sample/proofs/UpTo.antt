-- The events up to a place, where one more event comes.
use Rattle.std.proofs.Common.{◌≡◌, ℕ, zero, suc, ◌+◌, ◌≤◌, List, [], ◌∷◌, ◌++◌, Bool, true, cond, refl, ap, sym, ◌∙◌}
use Rattle.std.proofs.Common.{arith, add-one}
use Rattle.std.specs.Prelude.{sum_by}
use Rattle.std.proofs.lemmas.List.Sums.{sum_by-cons, sum_by_push}
use Rattle.live_ledger.specs.declared.event.Event.{Event}
use Rattle.live_ledger.specs.declared.event.Event.TheVariants.{Alloc, Free, Tick}
use Rattle.live_ledger.specs.Events.{event_count, is_counted}
use Rattle.massif_sample.specs.Places.{up_to}

-- the number of allocations and frees, by the first event
pub count-cons : (e : Event) (es : List Event) → event_count (e ∷ es) ≡ cond {A = ℕ} (is_counted e) 1 0 + event_count es
count-cons e es = sum_by-cons (λ (x : Event). cond {A = ℕ} (is_counted x) 1 0) e es

-- there is one more
pub count-more : (events : List Event) (event : Event) → is_counted event ≡ true
    → event_count (events ++ event ∷ []) ≡ event_count events + 1
count-more events event is =
    sum_by_push (λ (e : Event). cond (is_counted e) 1 0) events event
    ∙ ap (λ (b : Bool). event_count events + cond {A = ℕ} b 1 0) is

-- a clock value is none
pub count-tick : (events : List Event) (ms : ℕ) → event_count (events ++ Tick ms ∷ []) ≡ event_count events
count-tick events ms =
    let more = sum_by_push (λ (e : Event). cond {A = ℕ} (is_counted e) 1 0) events (Tick ms) in omega arith

-- the events up to a place stay when more come
pub up_to-front : (k : ℕ) (events more : List Event) → k ≤ event_count events
    → up_to k (events ++ more) ≡ up_to k events
unfolding up_to
up_to-front zero events more within = refl
up_to-front (suc k) [] more within = absurd (let none : suc k ≤ 0 = within in omega arith)
up_to-front (suc k) (Alloc i s z ∷ es) more within =
    ap (λ (xs : List Event). Alloc i s z ∷ xs)
    (up_to-front k es more (let count = count-cons (Alloc i s z) es in omega arith))
up_to-front (suc k) (Free i s z ∷ es) more within =
    ap (λ (xs : List Event). Free i s z ∷ xs)
    (up_to-front k es more (let count = count-cons (Free i s z) es in omega arith))
up_to-front (suc k) (Tick ms ∷ es) more within =
    ap (λ (xs : List Event). Tick ms ∷ xs)
    (up_to-front (suc k) es more (let count = count-cons (Tick ms) es in omega arith))

-- all events are up to the last place, where that is behind the last of them
up_to-all_suc : (n : ℕ) (events : List Event) (event : Event) → is_counted event ≡ true → n ≡ event_count events
    → up_to (suc n) (events ++ event ∷ []) ≡ events ++ event ∷ []
unfolding up_to
up_to-all_suc n [] (Alloc i s z) is count = ap (λ (k : ℕ). Alloc i s z ∷ up_to k []) count
up_to-all_suc n [] (Free i s z) is count = ap (λ (k : ℕ). Free i s z ∷ up_to k []) count
up_to-all_suc n [] (Tick ms) is count = cc
up_to-all_suc zero (Alloc i s z ∷ es) event is count = absurd (let one = count-cons (Alloc i s z) es in omega arith)
up_to-all_suc (suc n) (Alloc i s z ∷ es) event is count =
    ap (λ (xs : List Event). Alloc i s z ∷ xs)
    (up_to-all_suc n es event is (let one = count-cons (Alloc i s z) es in omega arith))
up_to-all_suc zero (Free i s z ∷ es) event is count = absurd (let one = count-cons (Free i s z) es in omega arith)
up_to-all_suc (suc n) (Free i s z ∷ es) event is count =
    ap (λ (xs : List Event). Free i s z ∷ xs)
    (up_to-all_suc n es event is (let one = count-cons (Free i s z) es in omega arith))
up_to-all_suc n (Tick ms ∷ es) event is count =
    ap (λ (xs : List Event). Tick ms ∷ xs)
    (up_to-all_suc n es event is (let one = count-cons (Tick ms) es in omega arith))

pub up_to-all : (events : List Event) (event : Event) → is_counted event ≡ true
    → up_to (event_count (events ++ event ∷ [])) (events ++ event ∷ []) ≡ events ++ event ∷ []
up_to-all events event is =
    ap (λ (k : ℕ). up_to k (events ++ event ∷ [])) (count-more events event is ∙ add-one (event_count events))
    ∙ up_to-all_suc (event_count events) events event is refl

-- a clock value behind the last place is left out
pub up_to-tick : (events : List Event) (ms : ℕ)
    → up_to (event_count (events ++ Tick ms ∷ [])) (events ++ Tick ms ∷ []) ≡ up_to (event_count events) events
up_to-tick events ms =
    ap (λ (k : ℕ). up_to k (events ++ Tick ms ∷ [])) (count-tick events ms)
    ∙ up_to-front (event_count events) events (Tick ms ∷ []) (omega arith)

-- clock values add nothing to a sum in which they have nothing
pub sum-up_to : (f : Event → ℕ) (k : ℕ) (events : List Event) → ((ms : ℕ) → f (Tick ms) ≡ 0) → event_count events ≤ k
    → sum_by f (up_to k events) ≡ sum_by f events
unfolding up_to
sum-up_to f zero [] none within = refl
sum-up_to f zero (Alloc i s z ∷ es) none within = absurd (let one = count-cons (Alloc i s z) es in omega arith)
sum-up_to f zero (Free i s z ∷ es) none within = absurd (let one = count-cons (Free i s z) es in omega arith)
sum-up_to f zero (Tick ms ∷ es) none within =
    let here = none ms in
    let tail = sum-up_to f zero es none (let one = count-cons (Tick ms) es in omega arith) in
    let empty : sum_by f (up_to zero es) ≡ 0 = refl in
    omega (arith, sum_by-cons f (Tick ms) es)
sum-up_to f (suc k) [] none within = refl
sum-up_to f (suc k) (Alloc i s z ∷ es) none within =
    sum_by-cons f (Alloc i s z) (up_to k es)
    ∙ ap (λ (n : ℕ). f (Alloc i s z) + n) (sum-up_to f k es none (let one = count-cons (Alloc i s z) es in omega arith))
    ∙ sym (sum_by-cons f (Alloc i s z) es)
sum-up_to f (suc k) (Free i s z ∷ es) none within =
    sum_by-cons f (Free i s z) (up_to k es)
    ∙ ap (λ (n : ℕ). f (Free i s z) + n) (sum-up_to f k es none (let one = count-cons (Free i s z) es in omega arith))
    ∙ sym (sum_by-cons f (Free i s z) es)
sum-up_to f (suc k) (Tick ms ∷ es) none within =
    sum_by-cons f (Tick ms) (up_to (suc k) es)
    ∙ ap (λ (n : ℕ). f (Tick ms) + n) (sum-up_to f (suc k) es none (let one = count-cons (Tick ms) es in omega arith))
    ∙ sym (sum_by-cons f (Tick ms) es)

-- a place holds no more than there are
pub sum-now : (f : Event → ℕ) (events : List Event) → ((ms : ℕ) → f (Tick ms) ≡ 0)
    → sum_by f (up_to (event_count events) events) ≡ sum_by f events
sum-now f events none = sum-up_to f (event_count events) events none (omega arith)
