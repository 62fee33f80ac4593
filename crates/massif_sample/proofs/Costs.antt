-- What stacks cost.
use Rattle.std.proofs.Common.{◌≡◌, ◌≢◌, ℕ, zero, suc, ◌+◌, ◌<◌, ◌≤◌, List, [], ◌∷◌, ◌++◌, length, map, eqb, Bool, true}
use Rattle.std.proofs.Common.{false, cond, refl, ap, sym, subst, ◌∙◌, arith, inl, inr}
use Rattle.std.specs.Prelude.{not, max}
use Rattle.std.specs.List.{range_with_len}
use Rattle.std.proofs.lemmas.List.Sums.{sum_by_push}
use Rattle.std.proofs.lemmas.Bool.{cases_eq, ne_eqb}
use Rattle.std.proofs.Math.Nat.{max-le}
use Rattle.std.proofs.lemmas.Option.{get_or_from_slice_get}
use Rattle.cost_history.specs.HistoryState.{AreSaid}
use Rattle.ht_trace.specs.TableState.{TableState}
use Rattle.live_ledger.specs.declared.event.Event.{Event}
use Rattle.live_ledger.specs.declared.event.Event.TheVariants.{Alloc, Free, Tick}
use Rattle.live_ledger.specs.Events.{event_count}
use Rattle.live_ledger.specs.InStack.{alloc_size_in, free_size_in, live_in}
use Rattle.live_ledger.specs.LedgerState.{LedgerState, figures_at}
use Rattle.live_ledger.specs.StandsFor as ledger_spec
use Rattle.massif_sample.specs.FunctionNames.{FunctionNames, ignores}
use Rattle.massif_sample.specs.LiveCosts.{live_cost}
use Rattle.massif_sample.specs.Places.{up_to}
use Rattle.massif_sample.specs.Snapshots.{cost_at}
use Rattle.massif_sample.specs.StandsFor.{AreJudged, IsIn}
use Rattle.massif_sample.specs.Counted.{counts}
use Rattle.massif_sample.proofs.UpTo.{sum-now}

-- functions that agree over a range
pub map-same : {X : Type 0} (f g : ℕ → X) (a n : ℕ) → ((k : ℕ) → a ≤ k → k < a + n → f k ≡ g k)
    → map f (range_with_len a n) ≡ map g (range_with_len a n)
map-same f g a zero same = refl
map-same {X} f g a (suc n) same =
    ap (λ (x : X). x ∷ map f (range_with_len (a + 1) n)) (same a (omega arith) (omega arith))
    ∙ ap (λ (xs : List X). g a ∷ xs) (map-same f g (a + 1) n (λ k low high. same k (omega arith) (omega arith)))

-- a stack's live bytes at the last place
live-now : (stack : ℕ) (events : List Event) → live_in stack (up_to (event_count events) events) ≡ live_in stack events
live-now stack events =
    let allocated = sum-now (alloc_size_in stack) events (λ ms. refl) in
    let freed = sum-now (free_size_in stack) events (λ ms. refl) in
    omega arith

-- what a ledger says that a stack costs is what the events cost at the last place
pub live_cost-is :
    (judged : List Bool) (ledger : LedgerState) (names : FunctionNames) (tables : TableState) (events : List Event)
    (stack : ℕ)
    → AreJudged names tables judged
    → stack < length judged
    → ledger_spec.StandsFor ledger events
    → live_cost judged ledger stack ≡ cost_at (ignores tables names) events (event_count events) stack
live_cost-is judged ledger names tables events stack are held stands =
    ap (λ (b : Bool). cond {A = ℕ} b 0 (figures_at ledger stack).live)
    (get_or_from_slice_get judged stack (ignores tables names stack) false (are stack held))
    ∙ ap (λ (n : ℕ). cond {A = ℕ} (ignores tables names stack) 0 n)
    ((stands.each_stack stack).live_is ∙ sym (live-now stack events))

-- before any event no stack costs anything
pub cost-first : (ignored : ℕ → Bool) (stack : ℕ) → cost_at ignored [] (event_count []) stack ≡ 0
unfolding up_to
cost-first ignored stack = by_flag (ignored stack) where
  by_flag : (b : Bool) → cond {A = ℕ} b 0 0 ≡ 0
  by_flag true = refl
  by_flag false = refl

-- what a stack costs now
cost-now : (ignored : ℕ → Bool) (events : List Event) (stack : ℕ)
    → cost_at ignored events (event_count events) stack ≡ cond {A = ℕ} (ignored stack) 0 (live_in stack events)
cost-now ignored events stack = ap (λ (n : ℕ). cond {A = ℕ} (ignored stack) 0 n) (live-now stack events)

-- an event without a block of the stack leaves what it has live
live-other : (events : List Event) (event : Event) (stack : ℕ) → alloc_size_in stack event ≡ 0
    → free_size_in stack event ≡ 0 → live_in stack (events ++ event ∷ []) ≡ live_in stack events
live-other events event stack no_alloc no_free =
    let allocated = sum_by_push (alloc_size_in stack) events event in
    let freed = sum_by_push (free_size_in stack) events event in
    omega arith

no-size : (a b size : ℕ) → a ≢ b → cond {A = ℕ} (eqb a b) size 0 ≡ 0
no-size a b size apart = ap (λ (flag : Bool). cond {A = ℕ} flag size 0) (ne_eqb a b apart)

alloc-other : (n stack : ℕ) (event : Event) → IsIn n event → stack ≢ n → alloc_size_in stack event ≡ 0
alloc-other n stack (Alloc i s z) is other = no-size s stack z (λ same. other (sym same ∙ is))
alloc-other n stack (Free i s z) is other = refl
alloc-other n stack (Tick ms) is other = refl

free-other : (n stack : ℕ) (event : Event) → IsIn n event → stack ≢ n → free_size_in stack event ≡ 0
free-other n stack (Alloc i s z) is other = refl
free-other n stack (Free i s z) is other = no-size s stack z (λ same. other (sym same ∙ is))
free-other n stack (Tick ms) is other = refl

-- behind an event of a stack the others cost what they did
pub cost-other : (ignored : ℕ → Bool) (events : List Event) (event : Event) (n stack : ℕ) → IsIn n event → stack ≢ n
    → cost_at ignored (events ++ event ∷ []) (event_count (events ++ event ∷ [])) stack
    ≡ cost_at ignored events (event_count events) stack
cost-other ignored events event n stack is other =
    cost-now ignored (events ++ event ∷ []) stack
    ∙ ap (λ (m : ℕ). cond {A = ℕ} (ignored stack) 0 m)
    (live-other events event stack (alloc-other n stack event is other) (free-other n stack event is other))
    ∙ sym (cost-now ignored events stack)

-- what isn't false is true
pub was-true : (b : Bool) → not b ≡ false → b ≡ true
was-true true is = refl
was-true false is = absurd (cc)

-- behind an event of an ignored stack all do
of-ignored : (ignored : ℕ → Bool) (events : List Event) (event : Event) (n stack : ℕ) → IsIn n event
    → not (ignored n) ≡ false
    → cost_at ignored (events ++ event ∷ []) (event_count (events ++ event ∷ [])) stack
    ≡ cost_at ignored events (event_count events) stack
of-ignored ignored events event n stack is none =
    elim (cases_eq stack n) [
      | inr other ↦ cost-other ignored events event n stack is other
      | inl own ↦
          (let flag : ignored stack ≡ true = ap ignored own ∙ was-true (ignored n) none in
          ap (λ (b : Bool). cond {A = ℕ} b 0
          (live_in stack (up_to (event_count (events ++ event ∷ [])) (events ++ event ∷ [])))) flag
          ∙ sym (ap (λ (b : Bool). cond {A = ℕ} b 0 (live_in stack (up_to (event_count events) events))) flag))
    ]

-- behind an event that isn't counted all do
pub cost-passed : (ignored : ℕ → Bool) (events : List Event) (event : Event) → counts ignored event ≡ false
    → (stack : ℕ)
    → cost_at ignored (events ++ event ∷ []) (event_count (events ++ event ∷ [])) stack
    ≡ cost_at ignored events (event_count events) stack
cost-passed ignored events (Tick ms) none stack =
    cost-now ignored (events ++ Tick ms ∷ []) stack
    ∙ ap (λ (m : ℕ). cond {A = ℕ} (ignored stack) 0 m) (live-other events (Tick ms) stack refl refl)
    ∙ sym (cost-now ignored events stack)
cost-passed ignored events (Alloc i s z) none stack = of-ignored ignored events (Alloc i s z) s stack refl none
cost-passed ignored events (Free i s z) none stack = of-ignored ignored events (Free i s z) s stack refl none

-- the greater of two numbers is at most a third that is the one and no less than the other
pub no-more : (a b greater most : ℕ) → a ≤ most → b ≡ most → greater ≡ max a b → greater ≤ most
no-more a b greater most first second is =
    subst (λ (n : ℕ). n ≤ most) (sym is) (max-le first (let least : b ≤ most = omega arith in least))

-- a closure's answers, where the number of stacks goes by another name
pub said-as : {answers : ℕ → ℕ → Type 0} (n m : ℕ) (costs : ℕ → ℕ) → n ≡ m → AreSaid answers m costs
    → AreSaid answers n costs
said-as {answers} n m costs same said = subst (λ (k : ℕ). AreSaid answers k costs) (sym same) said
