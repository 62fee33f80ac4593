-- Sums over events told by their infos.
use Rattle.std.proofs.Common.{◌≡◌, ℕ, ◌+◌, ◌*◌, ◌^◌, ◌<◌, ◌≤◌, zero, suc, List, [], ◌∷◌, length, get_or, take, Bool}
use Rattle.std.proofs.Common.{cond, Option, inl, inr, refl, sym, ap, subst, ◌∙◌, arith, add-one, ◌≢◌, mul-zero}
use Rattle.std.proofs.Common.{mul-le-mul_left}
use Rattle.std.specs.Prelude.{◌==◌, nat_lt, None, Some, count_by, slice_get, slice_index, sum_by}
use Rattle.std.specs.List.{zip}
use Rattle.std.proofs.Math.Dec.{eqb-suc-suc, eqb-suc-zero, eqb-zero-suc}
use Rattle.std.proofs.lemmas.Bool.Decides.{eqb_tells, leb_tells}
use Rattle.std.proofs.lemmas.List.{take_all}
use Rattle.std.proofs.lemmas.List.Sums.{sum_by-cons, sum_by_more}
use Rattle.std.proofs.lemmas.Option.{slice_get-get_or}
use Rattle.live_ledger.specs.declared.event.Event.{Event}
use Rattle.live_ledger.specs.declared.event.Event.TheVariants.{Alloc, Free, Tick}
use Rattle.live_ledger.specs.declared.event.EventFault.{EventFault}
use Rattle.live_ledger.specs.declared.event.EventFault.TheVariants.{CostTooLarge, FreeOfNothing}
use Rattle.live_ledger.specs.ByInfo.{AreBalanced, alloc_weight, free_weight, weighed}
use Rattle.live_ledger.specs.Faults.{fault_of}
use Rattle.live_ledger.specs.InfoBlocks.{allocs_of, frees_of, is_alloc_of, is_free_of}
use Rattle.live_ledger.specs.InStack.{alloc_size_in, allocated_in, calls_in, free_size_in, freed_in, frees_in}
use Rattle.live_ledger.specs.InStack.{is_alloc_in, is_free_in}
use Rattle.live_ledger.specs.LedgerState.{HeldInfo, IsAmong, LedgerState}
use Rattle.live_ledger.specs.LiveBytes.{alloc_size, allocated_bytes}
use Rattle.live_ledger.specs.Possible.{AreAmong, ArePossible, HaveNoFault}
use Rattle.live_ledger.specs.StandsFor.{StandsFor}

-- the weights of the infos, each as often as its number says
by_number : (HeldInfo → ℕ) → (ℕ → ℕ) → List HeldInfo → ℕ
by_number weight times [] = 0
by_number weight times (x ∷ xs) = weight x * times 0 + by_number weight (λ i. times (suc i)) xs

-- numbers that are equal one by one
by_number-same : (weight : HeldInfo → ℕ) (f g : ℕ → ℕ) (infos : List HeldInfo) → ((i : ℕ) → f i ≡ g i)
    → by_number weight f infos ≡ by_number weight g infos
unfolding by_number
by_number-same weight f g [] same = refl
by_number-same weight f g (x ∷ xs) same =
    ap (λ (n : ℕ). weight x * n + by_number weight (λ i. f (suc i)) xs) (same 0)
    ∙ ap (λ (n : ℕ). weight x * g 0 + n)
    (by_number-same weight (λ i. f (suc i)) (λ i. g (suc i)) xs (λ i. same (suc i)))

-- numbers that are no greater one by one
by_number-le : (weight : HeldInfo → ℕ) (f g : ℕ → ℕ) (infos : List HeldInfo) → ((i : ℕ) → f i ≤ g i)
    → by_number weight f infos ≤ by_number weight g infos
unfolding by_number
by_number-le weight f g [] below = omega arith
by_number-le weight f g (x ∷ xs) below =
    let here : weight x * f 0 ≤ weight x * g 0 = mul-le-mul_left (weight x) (below 0) in
    let rest = by_number-le weight (λ i. f (suc i)) (λ i. g (suc i)) xs (λ i. below (suc i)) in
    omega arith

-- sums of numbers
by_number-add : (weight : HeldInfo → ℕ) (f g : ℕ → ℕ) (infos : List HeldInfo)
    → by_number weight (λ i. f i + g i) infos ≡ by_number weight f infos + by_number weight g infos
unfolding by_number
by_number-add weight f g [] = refl
by_number-add weight f g (x ∷ xs) =
    let rest = by_number-add weight (λ i. f (suc i)) (λ i. g (suc i)) xs in
    omega arith

-- no number
by_number-none : (weight : HeldInfo → ℕ) (infos : List HeldInfo) → by_number weight (λ i. 0) infos ≡ 0
unfolding by_number
by_number-none weight [] = refl
by_number-none weight (x ∷ xs) = let rest = by_number-none weight xs in omega (arith, mul-zero (weight x))

-- one at one number
by_number-one : (weight : HeldInfo → ℕ) (infos : List HeldInfo) (j : ℕ) (held : HeldInfo)
    → slice_get infos j ≡ Some held → by_number weight (λ i. cond {A = ℕ} (j == i) 1 0) infos ≡ weight held
unfolding by_number
by_number-one weight [] j held is = cc
by_number-one weight (x ∷ xs) zero held is =
    let same : x ≡ held = cc in
    let none : by_number weight (λ i. cond {A = ℕ} (zero == suc i) 1 0) xs ≡ 0 =
    by_number-same weight (λ i. cond {A = ℕ} (zero == suc i) 1 0) (λ i. 0) xs
    (λ i. ap (λ (b : Bool). cond {A = ℕ} b 1 0) (eqb-zero-suc i))
    ∙ by_number-none weight xs in
    let weights : weight x ≡ weight held = ap weight same in
    omega arith
by_number-one weight (x ∷ xs) (suc j) held is =
    let rest = by_number-one weight xs j held is in
    let shifted : by_number weight (λ i. cond {A = ℕ} (suc j == suc i) 1 0) xs
    ≡ by_number weight (λ i. cond {A = ℕ} (j == i) 1 0) xs =
    by_number-same weight (λ i. cond {A = ℕ} (suc j == suc i) 1 0) (λ i. cond {A = ℕ} (j == i) 1 0) xs
    (λ i. ap (λ (b : Bool). cond {A = ℕ} b 1 0) (eqb-suc-suc j i)) in
    let first : weight x * cond {A = ℕ} (suc j == zero) 1 0 ≡ 0 =
    ap (λ (b : Bool). weight x * cond {A = ℕ} b 1 0) (eqb-suc-zero j) ∙ mul-zero (weight x) in
    omega arith

-- the numbers of a list
by_number-list : (weight : HeldInfo → ℕ) (infos : List HeldInfo) (times : List ℕ)
    → weighed weight infos times ≡ by_number weight (λ i. slice_index times i) infos
unfolding by_number
by_number-list weight [] times = refl
by_number-list weight (x ∷ xs) [] = sym (by_number-none weight (x ∷ xs))
by_number-list weight (x ∷ xs) (t ∷ ts) =
    sum_by-cons (λ (pair : HeldInfo × ℕ). weight pair.0 * pair.1) (x, t) (zip xs ts)
    ∙ ap (λ (n : ℕ). weight x * t + n) (by_number-list weight xs ts)

-- one event's weight, by the infos
alloc-by_number : (weight : HeldInfo → ℕ) (infos : List HeldInfo) (e : Event) → IsAmong infos e
    → by_number weight (λ i. cond {A = ℕ} (is_alloc_of i e) 1 0) infos ≡ alloc_weight weight e
alloc-by_number weight infos (Alloc j s z) held = by_number-one weight infos j (record { stack = s; size = z }) held
alloc-by_number weight infos (Free j s z) held = by_number-none weight infos
alloc-by_number weight infos (Tick ms) held = by_number-none weight infos

free-by_number : (weight : HeldInfo → ℕ) (infos : List HeldInfo) (e : Event) → IsAmong infos e
    → by_number weight (λ i. cond {A = ℕ} (is_free_of i e) 1 0) infos ≡ free_weight weight e
free-by_number weight infos (Alloc j s z) held = by_number-none weight infos
free-by_number weight infos (Free j s z) held = by_number-one weight infos j (record { stack = s; size = z }) held
free-by_number weight infos (Tick ms) held = by_number-none weight infos

-- the weights of those events of a list that are told by info, by the infos
sums-by_number :
    (weight : HeldInfo → ℕ) (is_of : ℕ → Event → Bool) (weigh : Event → ℕ) (infos : List HeldInfo) (events : List Event)
    → ((e : Event) → IsAmong infos e → by_number weight (λ i. cond {A = ℕ} (is_of i e) 1 0) infos ≡ weigh e)
    → AreAmong infos events
    → by_number weight (λ i. count_by (is_of i) events) infos ≡ sum_by weigh events
sums-by_number weight is_of weigh infos [] each all = by_number-none weight infos
sums-by_number weight is_of weigh infos (e ∷ es) each all =
    let rest = sums-by_number weight is_of weigh infos es each (λ k event at. all (suc k) event at) in
    by_number-same weight (λ i. count_by (is_of i) (e ∷ es))
    (λ i. cond {A = ℕ} (is_of i e) 1 0 + count_by (is_of i) es) infos
    (λ i. sum_by-cons (λ (x : Event). cond {A = ℕ} (is_of i x) 1 0) e es)
    ∙ by_number-add weight (λ i. cond {A = ℕ} (is_of i e) 1 0) (λ i. count_by (is_of i) es) infos
    ∙ ap (λ (n : ℕ). n + by_number weight (λ i. count_by (is_of i) es) infos) (each e (all 0 e refl))
    ∙ ap (λ (n : ℕ). weigh e + n) rest
    ∙ sym (sum_by-cons weigh e es)

-- the weights of a list's allocations, by the infos
allocs-by_number : (weight : HeldInfo → ℕ) (infos : List HeldInfo) (events : List Event) → AreAmong infos events
    → by_number weight (λ i. allocs_of i events) infos ≡ sum_by (alloc_weight weight) events
allocs-by_number weight infos events =
    sums-by_number weight is_alloc_of (alloc_weight weight) infos events (alloc-by_number weight infos)

-- and of its frees
frees-by_number : (weight : HeldInfo → ℕ) (infos : List HeldInfo) (events : List Event) → AreAmong infos events
    → by_number weight (λ i. frees_of i events) infos ≡ sum_by (free_weight weight) events
frees-by_number weight infos events =
    sums-by_number weight is_free_of (free_weight weight) infos events (free-by_number weight infos)

-- a ledger's sums by its infos
pub weighed-calls : (state : LedgerState) (events : List Event) (weight : HeldInfo → ℕ) → StandsFor state events
    → weighed weight state.infos state.info_calls ≡ sum_by (alloc_weight weight) events
weighed-calls state events weight stands =
    by_number-list weight state.infos state.info_calls
    ∙ by_number-same weight (λ i. slice_index state.info_calls i) (λ i. allocs_of i events) state.infos
    stands.whole.each_info_calls
    ∙ allocs-by_number weight state.infos events stands.whole.held

-- an event without a fault frees no more of an info than was allocated
free-within :
    (before : List Event) (i : ℕ) (e : Event)
    → fault_of before e ≡ None
    → frees_of i before ≤ allocs_of i before
    → frees_of i before + cond {A = ℕ} (is_free_of i e) 1 0 ≤ allocs_of i before + cond {A = ℕ} (is_alloc_of i e) 1 0
free-within before i (Alloc j s z) none within = omega arith
free-within before i (Free j s z) none within =
    elim (eqb_tells j i) [
      | inl same ↦
          elim (eqb_tells (allocs_of j before) (frees_of j before)) [
            | inl fault ↦ absurd
                (let is : cond (allocs_of j before == frees_of j before) (Some FreeOfNothing) None
                ≡ Some FreeOfNothing =
                ap (λ (b : Bool). cond {A = Option EventFault} b (Some FreeOfNothing) None) fault.0 in cc)
            | inr more ↦
                let one : cond {A = ℕ} (j == i) 1 0 ≡ 1 = ap (λ (b : Bool). cond {A = ℕ} b 1 0) same.0 in
                let allocs : allocs_of j before ≡ allocs_of i before = ap (λ (n : ℕ). allocs_of n before) same.1 in
                let frees : frees_of j before ≡ frees_of i before = ap (λ (n : ℕ). frees_of n before) same.1 in
                let apart : allocs_of j before ≢ frees_of j before = more.1 in
                omega arith
          ]
      | inr apart ↦
          let none_more : cond {A = ℕ} (j == i) 1 0 ≡ 0 = ap (λ (b : Bool). cond {A = ℕ} b 1 0) apart.0 in
          omega arith
    ]
free-within before i (Tick ms) none within = omega arith

-- and keeps the allocated bytes within their bound
size-within : (before : List Event) (e : Event) → fault_of before e ≡ None → allocated_bytes before ≤ 2 ^ 62
    → allocated_bytes before + alloc_size e ≤ 2 ^ 62
size-within before (Alloc j s z) none within =
    elim (leb_tells (suc (2 ^ 62)) (allocated_bytes before + z)) [
      | inl fault ↦ absurd
          (let is : cond (nat_lt (2 ^ 62) (allocated_bytes before + z)) (Some CostTooLarge) None
          ≡ Some CostTooLarge =
          ap (λ (b : Bool). cond {A = Option EventFault} b (Some CostTooLarge) None) fault.0 in cc)
      | inr fits ↦ (let below = fits.1 in omega arith)
    ]
size-within before (Free j s z) none within = omega arith
size-within before (Tick ms) none within = omega arith

-- the sum over one event more
one-more : (f : Event → ℕ) (events : List Event) (k : ℕ) → k < length events
    → sum_by f (take (suc k) events) ≡ sum_by f (take k events) + f (get_or events k (Tick 0))
one-more f events k within =
    ap (λ (n : ℕ). sum_by f (take n events)) (sym (add-one k)) ∙ sum_by_more f events k (Tick 0) within

-- in a front of a list without faults
pub frees-within : (events : List Event) (i : ℕ) → HaveNoFault events → (k : ℕ) → k ≤ length events
    → frees_of i (take k events) ≤ allocs_of i (take k events)
frees-within events i ok zero within = omega arith
frees-within events i ok (suc k) within =
    let inside : k < length events = omega arith in
    let before = frees-within events i ok k (omega arith) in
    let allocs = one-more (λ (x : Event). cond {A = ℕ} (is_alloc_of i x) 1 0) events k inside in
    let frees = one-more (λ (x : Event). cond {A = ℕ} (is_free_of i x) 1 0) events k inside in
    let step =
    free-within (take k events) i (get_or events k (Tick 0))
    (ok k (get_or events k (Tick 0)) (slice_get-get_or events k (Tick 0) inside)) before in
    omega arith

sizes-within : (events : List Event) → HaveNoFault events → (k : ℕ) → k ≤ length events
    → allocated_bytes (take k events) ≤ 2 ^ 62
sizes-within events ok zero within = omega arith
sizes-within events ok (suc k) within =
    let inside : k < length events = omega arith in
    let before = sizes-within events ok k (omega arith) in
    let more = one-more alloc_size events k inside in
    let step =
    size-within (take k events) (get_or events k (Tick 0))
    (ok k (get_or events k (Tick 0)) (slice_get-get_or events k (Tick 0) inside)) before in
    omega arith

-- sums of equal numbers
sum-same : (f g : Event → ℕ) (events : List Event) → ((e : Event) → f e ≡ g e) → sum_by f events ≡ sum_by g events
sum-same f g [] same = refl
sum-same f g (e ∷ es) same =
    sum_by-cons f e es ∙ ap (λ (n : ℕ). n + sum_by f es) (same e) ∙ ap (λ (n : ℕ). g e + n) (sum-same f g es same)
    ∙ sym (sum_by-cons g e es)

-- in a list that a trace can have, frees weigh no more than allocations
pub possible-weights : (events : List Event) (weight : HeldInfo → ℕ) → ArePossible events
    → sum_by (free_weight weight) events ≤ sum_by (alloc_weight weight) events
possible-weights events weight possible =
    let infos : List HeldInfo = possible.among.0 in
    let all : AreAmong infos events = possible.among.1 in
    let within : (i : ℕ) → frees_of i events ≤ allocs_of i events =
    λ i. subst (λ (es : List Event). frees_of i es ≤ allocs_of i es) (take_all (length events) events (omega arith))
    (frees-within events i possible.no_fault (length events) (omega arith)) in
    omega (
      arith,
      by_number-le weight (λ i. frees_of i events) (λ i. allocs_of i events) infos within,
      frees-by_number weight infos events all,
      allocs-by_number weight infos events all,
    )

-- the bytes, and the blocks, that a block of an info is of stack `n`
abbrev bytes_weight : ℕ → HeldInfo → ℕ
bytes_weight n held = cond {A = ℕ} (held.stack == n) held.size 0

abbrev blocks_weight : ℕ → HeldInfo → ℕ
blocks_weight n held = cond {A = ℕ} (held.stack == n) 1 0

alloc_bytes-is : (n : ℕ) (e : Event) → alloc_size_in n e ≡ alloc_weight (bytes_weight n) e
alloc_bytes-is n (Alloc j s z) = refl
alloc_bytes-is n (Free j s z) = refl
alloc_bytes-is n (Tick ms) = refl

free_bytes-is : (n : ℕ) (e : Event) → free_size_in n e ≡ free_weight (bytes_weight n) e
free_bytes-is n (Alloc j s z) = refl
free_bytes-is n (Free j s z) = refl
free_bytes-is n (Tick ms) = refl

alloc_blocks-is : (n : ℕ) (e : Event) → cond {A = ℕ} (is_alloc_in n e) 1 0 ≡ alloc_weight (blocks_weight n) e
alloc_blocks-is n (Alloc j s z) = refl
alloc_blocks-is n (Free j s z) = refl
alloc_blocks-is n (Tick ms) = refl

free_blocks-is : (n : ℕ) (e : Event) → cond {A = ℕ} (is_free_in n e) 1 0 ≡ free_weight (blocks_weight n) e
free_blocks-is n (Alloc j s z) = refl
free_blocks-is n (Free j s z) = refl
free_blocks-is n (Tick ms) = refl

-- a list that a trace can have is balanced in each stack
pub possible-balanced : (events : List Event) (n : ℕ) → ArePossible events → AreBalanced n events
possible-balanced events n possible =
    let freed : freed_in n events ≡ sum_by (free_weight (bytes_weight n)) events =
    sum-same (free_size_in n) (free_weight (bytes_weight n)) events (free_bytes-is n) in
    let allocated : allocated_in n events ≡ sum_by (alloc_weight (bytes_weight n)) events =
    sum-same (alloc_size_in n) (alloc_weight (bytes_weight n)) events (alloc_bytes-is n) in
    let frees : frees_in n events ≡ sum_by (free_weight (blocks_weight n)) events =
    sum-same (λ (e : Event). cond {A = ℕ} (is_free_in n e) 1 0) (free_weight (blocks_weight n)) events
    (free_blocks-is n) in
    let calls : calls_in n events ≡ sum_by (alloc_weight (blocks_weight n)) events =
    sum-same (λ (e : Event). cond {A = ℕ} (is_alloc_in n e) 1 0) (alloc_weight (blocks_weight n)) events
    (alloc_blocks-is n) in
    record {
      bytes = omega (arith, possible-weights events (bytes_weight n) possible, freed, allocated);
      blocks = omega (arith, possible-weights events (blocks_weight n) possible, frees, calls);
      allocated =
          subst (λ (es : List Event). allocated_bytes es ≤ 2 ^ 62) (take_all (length events) events (omega arith))
          (sizes-within events possible.no_fault (length events) (omega arith));
    }
