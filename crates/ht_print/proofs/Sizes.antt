-- Sums over infos as they are read one after another.
use Rattle.std.proofs.Common.{zero, suc, ◌≡◌, ℕ, ◌+◌, ◌*◌, ◌<◌, ◌≤◌, List, [], ◌∷◌, length, get_or, take, cond, Option}
use Rattle.std.proofs.Common.{Some, None, refl, sym, ap, ◌∙◌, add-one, rules, arith}
use Rattle.std.specs.Prelude.{sum, sum_by, slice_index}
use Rattle.std.proofs.Math.Nat.{mul-le-mul_right}
use Rattle.std.specs.List.{zip}
use Rattle.std.proofs.lemmas.List.{take_all}
use Rattle.std.proofs.lemmas.List.Sums.{sum_by-cons}
use Rattle.std.proofs.lemmas.Slice.Zip.{length-zip}
use Rattle.live_ledger.specs.declared.event.Event.{Event}
use Rattle.live_ledger.specs.declared.event.Event.TheVariants.{Alloc, Free, Tick}
use Rattle.live_ledger.specs.ByInfo.{alloc_weight, weighed}
use Rattle.live_ledger.specs.LedgerState.{HeldInfo, LedgerState}
use Rattle.ht_print.specs.Histogram.{allocations, allocations_at, histogram_lines, histogram_text, is_alloc_in_range}
use Rattle.ht_print.specs.Histogram.{large_ranges, small_ranges, weight}

-- the sum over the first infos
abbrev pub weighed-first : (HeldInfo → ℕ) → List HeldInfo → List ℕ → ℕ → ℕ
weighed-first w infos times n = sum_by (λ (pair : HeldInfo × ℕ). w pair.0 * pair.1) (take n (zip infos times))

-- one info more
more : (w : HeldInfo → ℕ) (infos : List HeldInfo) (times : List ℕ) (n : ℕ) (d : HeldInfo) → n < length infos
    → weighed-first w infos times (suc n) ≡ weighed-first w infos times n + w (get_or infos n d) * slice_index times n
more w [] times n d within = absurd (omega (arith, within))
more w (info ∷ infos) [] zero d within = omega arith
more w (info ∷ infos) [] (suc n) d within = omega arith
more w (info ∷ infos) (time ∷ times) zero d within =
    omega (arith, sum_by-cons (λ (pair : HeldInfo × ℕ). w pair.0 * pair.1) (info, time) [])
more w (info ∷ infos) (time ∷ times) (suc n) d within =
    let tail = more w infos times n d (omega (arith, within)) in
    omega (
      arith,
      tail,
      sum_by-cons (λ (pair : HeldInfo × ℕ). w pair.0 * pair.1) (info, time) (take n (zip infos times)),
      sum_by-cons (λ (pair : HeldInfo × ℕ). w pair.0 * pair.1) (info, time) (take (suc n) (zip infos times)),
    )

pub weighed-more : (w : HeldInfo → ℕ) (infos : List HeldInfo) (times : List ℕ) (n : ℕ) (d : HeldInfo) → n < length infos
    → weighed-first w infos times (n + 1) ≡ weighed-first w infos times n + w (get_or infos n d) * slice_index times n
weighed-more w infos times n d within = rw add-one (more w infos times n d within)

-- the sum over all
pub weighed-all : (w : HeldInfo → ℕ) (infos : List HeldInfo) (times : List ℕ) (n : ℕ) → length infos ≤ n
    → weighed-first w infos times n ≡ weighed w infos times
weighed-all w infos times n all =
    ap (λ (pairs : List (HeldInfo × ℕ)). sum_by (λ (pair : HeldInfo × ℕ). w pair.0 * pair.1) pairs)
    (take_all n (zip infos times) (let few = length-zip infos times in omega arith))

-- no weight is above 1, so the weighed sum is within the sum
light : (least : ℕ) (greatest : Option ℕ) (info : HeldInfo) → weight least greatest info ≤ 1
light least greatest info = search (arith, rules)

pub weighed-within : (least : ℕ) (greatest : Option ℕ) (infos : List HeldInfo) (times : List ℕ)
    → weighed (weight least greatest) infos times ≤ sum times
weighed-within least greatest [] times = omega arith
weighed-within least greatest (info ∷ infos) [] = omega arith
weighed-within least greatest (info ∷ infos) (time ∷ times) =
    let tail = weighed-within least greatest infos times in
    let here : weight least greatest info * time ≤ 1 * time = mul-le-mul_right time (light least greatest info) in
    let whole : weighed (weight least greatest) (info ∷ infos) (time ∷ times)
    ≡ weight least greatest info * time + weighed (weight least greatest) infos times =
    sum_by-cons (λ (pair : HeldInfo × ℕ). weight least greatest pair.0 * pair.1) (info, time) (zip infos times) in
    let total : sum (time ∷ times) ≡ time + sum times = sum_by-cons (λ (n : ℕ). n) time times in
    omega (arith, here, tail, whole, total)

-- a sum over a trace's allocations is that over the infos
abbrev pub SumsByInfo : LedgerState → List Event → Type 0
SumsByInfo ledger events =
    (w : HeldInfo → ℕ) → weighed w ledger.infos ledger.info_calls ≡ sum_by (alloc_weight w) events

-- the weight of an event
weighs : (least : ℕ) (greatest : Option ℕ) (event : Event)
    → alloc_weight (weight least greatest) event ≡ cond {A = ℕ} (is_alloc_in_range least greatest event) 1 0
weighs least greatest (Alloc info stack size) = refl
weighs least greatest (Free info stack size) = refl
weighs least greatest (Tick ms) = refl

-- allocations weighed so are counted
pub weighed-count : (least : ℕ) (greatest : Option ℕ) (events : List Event)
    → sum_by (alloc_weight (weight least greatest)) events ≡ allocations least greatest events
unfolding allocations
weighed-count least greatest [] = refl
weighed-count least greatest (event ∷ rest) =
    let here : alloc_weight (weight least greatest) event ≡ cond {A = ℕ} (is_alloc_in_range least greatest event) 1 0 =
    weighs least greatest event in
    let tail = weighed-count least greatest rest in
    sum_by-cons (alloc_weight (weight least greatest)) event rest
    ∙ ap (λ (n : ℕ). n + sum_by (alloc_weight (weight least greatest)) rest) here
    ∙ ap (λ (n : ℕ). cond {A = ℕ} (is_alloc_in_range least greatest event) 1 0 + n) tail
    ∙ sym (sum_by-cons (λ (e : Event). cond {A = ℕ} (is_alloc_in_range least greatest e) 1 0) event rest)

-- the number by a ledger's counts is the number by its events
pub counted-at : (ledger : LedgerState) (events : List Event) → SumsByInfo ledger events
    → (least : ℕ) (greatest : Option ℕ) → allocations_at ledger least greatest ≡ allocations least greatest events
unfolding allocations_at
counted-at ledger events sums least greatest = sums (weight least greatest) ∙ weighed-count least greatest events

-- the histogram by the one is the histogram by the other
pub histogram-at : (ledger : LedgerState) (events : List Event) → SumsByInfo ledger events
    → histogram_lines (allocations_at ledger) ≡ histogram_text events
unfolding histogram_text small_ranges large_ranges
histogram-at ledger events sums =
    rw (
      counted-at ledger events sums 0 (Some 8),
      counted-at ledger events sums 9 (Some 16),
      counted-at ledger events sums 17 (Some 32),
      counted-at ledger events sums 33 (Some 64),
      counted-at ledger events sums 65 (Some 128),
      counted-at ledger events sums 129 (Some 256),
      counted-at ledger events sums 257 (Some 512),
      counted-at ledger events sums 513 (Some 1024),
      counted-at ledger events sums 1025 None,
    ) refl
