-- The figures of a list of events with one more.
use Rattle.std.proofs.Common.{◌≡◌, ℕ, ◌+◌, ◌*◌, ◌<◌, ◌≤◌, List, [], ◌∷◌, ◌++◌, Bool, true, false, cond, refl, inl, inr}
use Rattle.std.proofs.Common.{sym, ap, subst, ◌∙◌, ◌⊎◌, add-zero, arith}
use Rattle.std.specs.Prelude.{nat_lt}
use Rattle.std.proofs.lemmas.Bool.{cases_lt, le-ltb, lt-ltb}
use Rattle.std.proofs.lemmas.Bool.Decides.{eqb_tells}
use Rattle.std.proofs.Math.Nat.{add-mul, mul-add}
use Rattle.std.proofs.lemmas.List.Sums.{sum_by_push}
use Rattle.live_ledger.specs.declared.event.Event.{Event}
use Rattle.live_ledger.specs.declared.event.Event.TheVariants.{Alloc, Free, Tick}
use Rattle.live_ledger.specs.Events.{event_count, is_counted}
use Rattle.live_ledger.specs.InStack.{alloc_size_in, allocated_in, blocks_in, calls_in, free_size_in, freed_in}
use Rattle.live_ledger.specs.InStack.{frees_in, is_alloc_in, is_free_in, live_in}
use Rattle.dhat_metrics.specs.declared.figures.LifeFigures.{LifeFigures}
use Rattle.dhat_metrics.specs.Changes.{Moves, one_if}
use Rattle.dhat_metrics.specs.StandsFor.{AreFiguresOf, HasMost, blocks_after, live_after}
use Rattle.dhat_metrics.specs.Times.{alloc_times, free_times}
use Rattle.dhat_metrics.proofs.TimeLemmas.{alloc_times-push, blocks-all, count-push, first-before, free_times-push}
use Rattle.dhat_metrics.proofs.TimeLemmas.{live-all}

-- what a stack has live after the first events stays when one more comes
live-before : (n k : ℕ) (events : List Event) (event : Event) → is_counted event ≡ true → k ≤ event_count events
    → live_after n k (events ++ event ∷ []) ≡ live_after n k events
live-before n k events event is within = ap (λ (xs : List Event). live_in n xs) (first-before k events event is within)

blocks-before : (n k : ℕ) (events : List Event) (event : Event) → is_counted event ≡ true → k ≤ event_count events
    → blocks_after n k (events ++ event ∷ []) ≡ blocks_after n k events
blocks-before n k events event is within =
    ap (λ (xs : List Event). blocks_in n xs) (first-before k events event is within)

-- the most stays where what is live now is no more
most-stays :
    (bytes blocks n : ℕ) (events : List Event) (event : Event)
    → is_counted event ≡ true
    → HasMost bytes blocks n events
    → live_in n (events ++ event ∷ []) ≤ bytes
    → HasMost bytes blocks n (events ++ event ∷ [])
most-stays bytes blocks n events event is most below =
    let after : List Event = events ++ event ∷ [] in
    let p : ℕ = most.moment in
    let count = count-push events event is in
    let peak : live_after n p after ≡ live_after n p events = live-before n p events event is most.within in
    let bytes_are = most.bytes_are in
    record {
      moment = p;
      within = omega (arith, most.within, count);
      greatest = λ k within. elim (cases_lt (event_count events) k) [
        | inl last ↦ (let all = live-all n k after (omega arith) in omega arith)
        | inr before ↦
            (let here = live-before n k events event is before in let less = most.greatest k before in omega arith)
      ];
      least =
          λ k less. (let here = live-before n k events event is
          (let within = most.within in omega arith) in let below = most.least k less in omega arith);
      bytes_are = bytes_are ∙ sym peak;
      blocks_are = most.blocks_are ∙ sym (blocks-before n p events event is most.within);
    }

-- and it is what is live now where that is more
most-rises :
    (bytes blocks n : ℕ) (events : List Event) (event : Event)
    → is_counted event ≡ true
    → HasMost bytes blocks n events
    → bytes < live_in n (events ++ event ∷ [])
    → HasMost (live_in n (events ++ event ∷ [])) (blocks_in n (events ++ event ∷ [])) n (events ++ event ∷ [])
most-rises bytes blocks n events event is most above =
    let after : List Event = events ++ event ∷ [] in
    let p : ℕ = event_count after in
    let count = count-push events event is in
    let now : live_after n p after ≡ live_in n after = live-all n p after refl in
    let bytes_are = most.bytes_are in
    let before : (k : ℕ) → k ≤ event_count events → live_after n k after ≤ bytes = λ k within.
    (let here = live-before n k events event is within in let less = most.greatest k within in omega arith) in
    record {
      moment = p;
      within = omega arith;
      greatest = λ k within. elim (cases_lt (event_count events) k) [
        | inl last ↦ (let all = live-all n k after (omega arith) in omega arith)
        | inr early ↦ (let below = before k early in omega arith)
      ];
      least = λ k less. (let below = before k (omega arith) in omega arith);
      bytes_are = sym now;
      blocks_are = sym (blocks-all n p after refl);
    }

-- a choice by a test whose answer is known
chosen : (test answer : Bool) (x y : ℕ) → test ≡ answer → cond {A = ℕ} test x y ≡ cond {A = ℕ} answer x y
chosen test answer x y is = ap (λ (b : Bool). cond {A = ℕ} b x y) is

-- the most is told by its numbers
same-most : (bytes blocks bytes_now blocks_now n : ℕ) (events : List Event) → bytes_now ≡ bytes → blocks_now ≡ blocks
    → HasMost bytes blocks n events → HasMost bytes_now blocks_now n events
same-most bytes blocks bytes_now blocks_now n events bytes_same blocks_same most =
    subst (λ (b : ℕ). HasMost b blocks_now n events) (sym bytes_same)
    (subst (λ (b : ℕ). HasMost bytes b n events) (sym blocks_same) most)

-- the most after an event
most-moves :
    (old new : LifeFigures) (n : ℕ) (events : List Event) (event : Event)
    → is_counted event ≡ true
    → HasMost old.mb old.mbk n events
    → Moves old new n event
    → new.eb ≡ live_in n (events ++ event ∷ [])
    → new.ebk ≡ blocks_in n (events ++ event ∷ [])
    → HasMost new.mb new.mbk n (events ++ event ∷ [])
most-moves old new n events event is most moves eb_is ebk_is =
    elim (cases_lt old.mb new.eb) [
      | inl above ↦
          let test : nat_lt old.mb new.eb ≡ true = lt-ltb _ _ above in
          same-most _ _ _ _ n _ (moves.mb ∙ chosen _ _ new.eb old.mb test ∙ eb_is)
          (moves.mbk ∙ chosen _ _ new.ebk old.mbk test ∙ ebk_is)
          (most-rises old.mb old.mbk n events event is most (omega (arith, eb_is)))
      | inr below ↦
          let test : nat_lt old.mb new.eb ≡ false = le-ltb _ _ below in
          same-most _ _ _ _ n _ (moves.mb ∙ chosen _ _ new.eb old.mb test) (moves.mbk ∙ chosen _ _ new.ebk old.mbk test)
          (most-stays old.mb old.mbk n events event is most (omega (arith, eb_is)))
    ]

-- the lifetimes of a stack after an allocation, a free, or an event of another stack, at the time k + 1
lived-alloc : (tl at ft k b : ℕ) → tl + at ≡ ft + k * b → tl + b + (at + (1 + k)) ≡ ft + (k + 1) * (b + 1)
lived-alloc tl at ft k b is =
    let product : (k + 1) * (b + 1) ≡ k * b + k + b + 1 =
    rw (add-mul k 1 (b + 1), mul-add k b 1) (omega arith) in omega arith

lived-free : (tl at ft k b : ℕ) → tl + at ≡ ft + k * (b + 1) → tl + (b + 1) + at ≡ ft + (1 + k) + (k + 1) * b
lived-free tl at ft k b is =
    let product : (k + 1) * b ≡ k * b + b =
    rw (add-mul k 1 b) (omega arith) in let other : k * (b + 1) ≡ k * b + k =
    rw (mul-add k b 1) (omega arith) in omega arith

lived-other : (tl at ft k b : ℕ) → tl + at ≡ ft + k * b → tl + b + at ≡ ft + (k + 1) * b
lived-other tl at ft k b is = let product : (k + 1) * b ≡ k * b + b = rw (add-mul k 1 b) (omega arith) in omega arith

-- the sums of a list with one event more
record AddsEvent (n : ℕ) (events : List Event) (event : Event) : Type 0 where
  count : event_count (events ++ event ∷ []) ≡ event_count events + 1
  allocated : allocated_in n (events ++ event ∷ []) ≡ allocated_in n events + alloc_size_in n event
  freed : freed_in n (events ++ event ∷ []) ≡ freed_in n events + free_size_in n event
  calls : calls_in n (events ++ event ∷ []) ≡ calls_in n events + one_if (is_alloc_in n event)
  frees : frees_in n (events ++ event ∷ []) ≡ frees_in n events + one_if (is_free_in n event)
  began : alloc_times n (events ++ event ∷ [])
      ≡ alloc_times n events + cond {A = ℕ} (is_alloc_in n event) (1 + event_count events) 0
  ended : free_times n (events ++ event ∷ [])
      ≡ free_times n events + cond {A = ℕ} (is_free_in n event) (1 + event_count events) 0

adds-event : (n : ℕ) (events : List Event) (event : Event) → is_counted event ≡ true → AddsEvent n events event
adds-event n events event is = record {
  count = count-push events event is;
  allocated = sum_by_push (alloc_size_in n) events event;
  freed = sum_by_push (free_size_in n) events event;
  calls = sum_by_push (λ (e : Event). cond {A = ℕ} (is_alloc_in n e) 1 0) events event;
  frees = sum_by_push (λ (e : Event). cond {A = ℕ} (is_free_in n e) 1 0) events event;
  began = alloc_times-push n events event is;
  ended = free_times-push n events event is;
}

-- whether an event is an allocation in a stack, a free of one of its blocks, or neither
record IsNeither (n : ℕ) (event : Event) : Type 0 where
  alloc : is_alloc_in n event ≡ false
  free : is_free_in n event ≡ false

kinds : (n : ℕ) (event : Event)
    → ((is_alloc_in n event ≡ true) × (is_free_in n event ≡ false))
    ⊎ (((is_alloc_in n event ≡ false) × (is_free_in n event ≡ true)) ⊎ IsNeither n event)
kinds n (Alloc info stack size) = elim (eqb_tells stack n) [
  | inl is ↦ inl (is.0, refl)
  | inr isnt ↦ inr (inr (record { alloc = isnt.0; free = refl }))
]
kinds n (Free info stack size) = elim (eqb_tells stack n) [
  | inl is ↦ inr (inl (refl, is.0))
  | inr isnt ↦ inr (inr (record { alloc = refl; free = isnt.0 }))
]
kinds n (Tick ms) = inr (inr (record { alloc = refl; free = refl }))

-- lifetimes over an event
lived-moves :
    (old new : LifeFigures) (n : ℕ) (events : List Event) (event : Event)
    → is_counted event ≡ true
    → old.tl + alloc_times n events ≡ free_times n events + event_count events * old.ebk
    → Moves old new n event
    → new.tl + alloc_times n (events ++ event ∷ [])
    ≡ free_times n (events ++ event ∷ []) + event_count (events ++ event ∷ []) * new.ebk
lived-moves old new n events event is lived moves =
    let adds = adds-event n events event is in
    let k : ℕ = event_count events in
    elim (kinds n event) [
      | inl alloc ↦
          let began : alloc_times n (events ++ event ∷ []) ≡ alloc_times n events + (1 + k) =
          adds.began ∙ ap (λ (b : Bool). alloc_times n events + cond {A = ℕ} b (1 + k) 0) alloc.0 in
          let ended : free_times n (events ++ event ∷ []) ≡ free_times n events =
          adds.ended ∙ ap (λ (b : Bool). free_times n events + cond {A = ℕ} b (1 + k) 0) alloc.1 ∙ add-zero _ in
          let ones : one_if (is_alloc_in n event) ≡ 1 = ap one_if alloc.0 in
          let nones : one_if (is_free_in n event) ≡ 0 = ap one_if alloc.1 in
          let blocks : new.ebk ≡ old.ebk + 1 = omega (arith, moves.ebk) in
          rw (began, ended, adds.count, blocks, moves.tl)
          (lived-alloc old.tl (alloc_times n events) (free_times n events) k old.ebk lived)
      | inr rest ↦ elim rest [
        | inl free ↦
            let began : alloc_times n (events ++ event ∷ []) ≡ alloc_times n events =
            adds.began ∙ ap (λ (b : Bool). alloc_times n events + cond {A = ℕ} b (1 + k) 0) free.0 ∙ add-zero _ in
            let ended : free_times n (events ++ event ∷ []) ≡ free_times n events + (1 + k) =
            adds.ended ∙ ap (λ (b : Bool). free_times n events + cond {A = ℕ} b (1 + k) 0) free.1 in
            let nones : one_if (is_alloc_in n event) ≡ 0 = ap one_if free.0 in
            let ones : one_if (is_free_in n event) ≡ 1 = ap one_if free.1 in
            let blocks : old.ebk ≡ new.ebk + 1 = omega (arith, moves.ebk) in
            rw (began, ended, adds.count, moves.tl, blocks)
            (lived-free old.tl (alloc_times n events) (free_times n events) k new.ebk (rw blocks at lived))
        | inr neither ↦
            let began : alloc_times n (events ++ event ∷ []) ≡ alloc_times n events =
            adds.began ∙ ap (λ (b : Bool). alloc_times n events + cond {A = ℕ} b (1 + k) 0) neither.alloc
            ∙ add-zero _ in
            let ended : free_times n (events ++ event ∷ []) ≡ free_times n events =
            adds.ended ∙ ap (λ (b : Bool). free_times n events + cond {A = ℕ} b (1 + k) 0) neither.free
            ∙ add-zero _ in
            let nones : one_if (is_alloc_in n event) ≡ 0 = ap one_if neither.alloc in
            let nones_too : one_if (is_free_in n event) ≡ 0 = ap one_if neither.free in
            let blocks : new.ebk ≡ old.ebk = omega (arith, moves.ebk) in
            rw (began, ended, adds.count, blocks, moves.tl)
            (lived-other old.tl (alloc_times n events) (free_times n events) k old.ebk lived)
      ]
    ]

-- the figures of a stack after an allocation or a free of any stack
pub figures-move :
    (old new : LifeFigures) (n : ℕ) (events : List Event) (event : Event)
    → is_counted event ≡ true
    → AreFiguresOf old n events
    → Moves old new n event
    → AreFiguresOf new n (events ++ event ∷ [])
figures-move old new n events event is are moves =
    let adds = adds-event n events event is in
    let live_and_freed : new.eb + freed_in n (events ++ event ∷ []) ≡ allocated_in n (events ++ event ∷ []) =
    omega (arith, adds.freed, adds.allocated, moves.eb, are.live_and_freed) in
    let blocks_and_frees : new.ebk + frees_in n (events ++ event ∷ []) ≡ calls_in n (events ++ event ∷ []) =
    omega (arith, adds.frees, adds.calls, moves.ebk, are.blocks_and_frees) in
    let eb_is : new.eb ≡ live_in n (events ++ event ∷ []) = omega arith in
    let ebk_is : new.ebk ≡ blocks_in n (events ++ event ∷ []) = omega arith in
    record {
      tb_is = omega (arith, moves.tb, are.tb_is, adds.allocated);
      tbk_is = omega (arith, moves.tbk, are.tbk_is, adds.calls);
      tl_is = lived-moves old new n events event is are.tl_is moves;
      most = most-moves old new n events event is are.most moves eb_is ebk_is;
      eb_is = eb_is;
      ebk_is = ebk_is;
      live_and_freed = live_and_freed;
      blocks_and_frees = blocks_and_frees;
    }
