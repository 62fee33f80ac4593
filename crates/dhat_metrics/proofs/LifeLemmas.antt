-- The figures that follow from the sums of the stacks, and how the sums keep what they promise.
use Rattle.std.proofs.Common.{zero, suc, ◌≡◌, ◌≢◌, ℕ, ◌+◌, ◌*◌, ◌-◌, ◌^◌, ◌<◌, ◌≤◌, List, [], ◌∷◌, ◌++◌, length, map}
use Rattle.std.proofs.Common.{get_or, set, take, Bool, true, false, cond, refl, inl, inr, sym, ap, subst, ◌∙◌, add-zero}
use Rattle.std.proofs.Common.{rules, arith}
use Rattle.std.specs.Prelude.{slice_index_or, nat_lt, ◌==◌, sum_by}
use Rattle.std.proofs.Math.ListN as lists
use Rattle.std.proofs.Math.Nat.{add-mul, le-mul_of_pos_right, mul-add, mul-le-mul_left, mul-le-mul_right}
use Rattle.std.proofs.lemmas.Bool.{eq-eqb, le-ltb}
use Rattle.std.proofs.lemmas.Bool.Decides.{eqb_tells}
use Rattle.std.proofs.lemmas.List.Sums.{sum_by_push}
use Rattle.std.proofs.lemmas.List.{get_or_default, get_or-set_other, get_or-set_same, length-append, length-map}
use Rattle.std.proofs.lemmas.List.{length-set, map-append}
use Rattle.live_ledger.specs.declared.event.Event.{Event}
use Rattle.live_ledger.specs.declared.event.Event.TheVariants.{Alloc, Free, Tick}
use Rattle.live_ledger.specs.ByInfo.{AreBalanced}
use Rattle.live_ledger.specs.Possible.{ArePossible}
use Rattle.live_ledger.specs.Events.{counted, event_count, is_counted}
use Rattle.dhat_metrics.specs.declared.figures.LifeFigures.{LifeFigures}
use Rattle.dhat_metrics.specs.declared.life.Life.{Life}
use Rattle.dhat_metrics.specs.Changes.{IsOfHeld, Moves, one_if}
use Rattle.dhat_metrics.specs.Life.{AreLives, IsLife, figures_of, life_at, no_sums, state_of, with_alloc, with_free}
use Rattle.dhat_metrics.specs.LifeState.{AreWithin, IsSound, LifeState, figures_at, no_figures}
use Rattle.dhat_metrics.specs.StandsFor.{AreFiguresOf, HasMost, StandsFor, live_after}
use Rattle.live_ledger.specs.InStack.{alloc_size_in, allocated_in, blocks_in, calls_in, free_size_in, freed_in}
use Rattle.live_ledger.specs.InStack.{frees_in, is_alloc_in, is_free_in, live_in}
use Rattle.dhat_metrics.specs.Times.{alloc_times, free_times}
use Rattle.dhat_metrics.proofs.Stepping.{figures-move}
use Rattle.dhat_metrics.proofs.TimeLemmas.{allocated-within, count-push, counted-tick, timed-tick}

-- sums of nothing give figures of nothing
pub no-figures : (events : ℕ) → figures_of events no_sums ≡ no_figures
no-figures events =
    let nothing : 0 + events * 0 - 0 ≡ 0 = omega arith in ap (λ (lived : ℕ). record no_figures { tl = lived }) nothing

-- the figures of a stack, held or not
pub figures-are : (events : ℕ) (lives : List Life) (stack : ℕ)
    → figures_at (state_of events lives) stack ≡ figures_of events (life_at lives stack)
figures-are events lives stack =
    ap (λ (none : LifeFigures). slice_index_or (map (figures_of events) lives) stack none) (sym (no-figures events))
    ∙ lists.get_or-map (figures_of events) lives stack no_sums

-- squares
square-within : (n : ℕ) → n ≤ 2 ^ 32 → n * n ≤ 2 ^ 64
square-within n few =
    let one : n * n ≤ n * 2 ^ 32 = mul-le-mul_left n few in
    let other : n * 2 ^ 32 ≤ 2 ^ 32 * 2 ^ 32 = mul-le-mul_right (2 ^ 32) few in
    omega arith

within-square : (n : ℕ) → n ≤ n * n
within-square zero = omega arith
within-square (suc n) = le-mul_of_pos_right (suc n) (omega arith)

-- all lifetimes together, of which those of n events are fewer than half their square
lived-below : (n lived began : ℕ) → began ≤ lived → 2 * lived + n ≤ 2 * began + n * n → n * n ≤ 2 ^ 64
    → lived - began < 2 ^ 63
lived-below zero lived began some bound above = omega arith
lived-below (suc n) lived began some bound above = omega arith

-- no figure passes its bound
within : (events : ℕ) (life : Life) → events ≤ 2 ^ 32 → IsLife life events → AreWithin (figures_of events life) events
within events life few sound =
    let square : events * events ≤ 2 ^ 64 = square-within events few in
    let lived : life.ended + events * life.blocks - life.began < 2 ^ 63 =
    lived-below events _ _ sound.lived sound.lived_within square in
    record {
      eb = sound.live_within;
      mb = sound.most_within;
      tb = sound.allocated_within;
      ebk = sound.blocks_within;
      mbk = sound.most_blocks_within;
      tbk = sound.calls_within;
      tl = lived;
    }

pub sound-of : (events : ℕ) (lives : List Life) → AreLives events lives → IsSound (state_of events lives)
sound-of events lives are = record {
  stack_0 = rw length-map are.stack_0;
  stacks_within = rw length-map are.stacks_within;
  events_within = are.events_within;
  each_stack =
      λ stack. rw (figures-are events lives stack)
      (within events (life_at lives stack) are.events_within (are.each_stack stack));
}

-- a stack without events
pub is-new : (events : ℕ) → IsLife no_sums events
is-new events =
    let nothing : events * 0 ≡ 0 = omega arith in
    let square = within-square events in
    record {
      lived = omega arith;
      lived_within = omega arith;
      times_within = omega arith;
      live_within = omega arith;
      most_within = omega arith;
      allocated_within = omega arith;
      blocks_within = omega arith;
      most_blocks_within = omega arith;
      calls_within = omega arith;
    }

-- a list has no more than before where its default stands at its end
more-is : (lives : List Life) (stack : ℕ) → life_at (lives ++ no_sums ∷ []) stack ≡ life_at lives stack
more-is [] zero = refl
more-is [] (suc n) = refl
more-is (life ∷ lives) zero = refl
more-is (life ∷ lives) (suc n) = more-is lives n

-- one more stack
pub lives-more : (events : ℕ) (lives : List Life) → AreLives events lives → length lives < 2 ^ 32 - 1
    → AreLives events (lives ++ no_sums ∷ [])
lives-more events lives are room =
    let count : length (lives ++ no_sums ∷ []) ≡ length lives + 1 = length-append lives (no_sums ∷ []) in
    record {
      stack_0 = omega arith;
      stacks_within = omega arith;
      events_within = are.events_within;
      each_stack =
          λ stack. subst (λ (life : Life). IsLife life events) (sym (more-is lives stack)) (are.each_stack stack);
    }

pub state-more : (events : ℕ) (lives : List Life)
    → state_of events (lives ++ no_sums ∷ [])
    ≡ record { events = events; figures = map (figures_of events) lives ++ no_figures ∷ [] }
state-more events lives = ap (λ (figures : List LifeFigures). record { events = events; figures = figures })
    (map-append (figures_of events) lives (no_sums ∷ [])
    ∙ ap (λ (none : LifeFigures). map (figures_of events) lives ++ none ∷ []) (no-figures events))

pub stands-more : (events : ℕ) (lives : List Life) (list : List Event) → StandsFor (state_of events lives) list
    → StandsFor (state_of events (lives ++ no_sums ∷ [])) list
stands-more events lives list stands = record {
  events_is = stands.events_is;
  each_stack =
      λ stack. rw
      (figures-are events (lives ++ no_sums ∷ []) stack, more-is lives stack, ← figures-are events lives stack)
      (stands.each_stack stack);
}

-- products of one event more
next-product : (n b : ℕ) → (n + 1) * b ≡ n * b + b
next-product n b = rw (add-mul n 1 b) (omega arith)

more-product : (n b : ℕ) → n * (b + 1) ≡ n * b + n
more-product n b = rw (mul-add n b 1) (omega arith)

next-square : (n : ℕ) → (n + 1) * (n + 1) ≡ n * n + n + n + 1
next-square n = let next = next-product n (n + 1) in let more = more-product n n in omega arith

-- a stack's sums over an allocation, a free, and an event of another stack
alloc-keeps : (life : Life) (size events : ℕ) → life.allocated + size ≤ 2 ^ 62 → IsLife life events
    → IsLife (with_alloc life size (events + 1)) (events + 1)
alloc-keeps life size events fits sound =
    let next = next-product events (life.blocks + 1) in
    let more = more-product events life.blocks in
    let square = next-square events in
    let few = sound.blocks_within in
    let calls = sound.calls_within in
    let lived = sound.lived in
    let lived_within = sound.lived_within in
    let times = sound.times_within in
    record {
      lived = omega arith;
      lived_within = omega arith;
      times_within = omega arith;
      live_within = search (arith, rules);
      most_within = search (arith, rules);
      allocated_within = fits;
      blocks_within = omega arith;
      most_blocks_within = search (arith, rules);
      calls_within = omega arith;
    }

free-keeps : (life : Life) (size events : ℕ) → size ≤ life.live → 0 < life.blocks → IsLife life events
    → IsLife (with_free life size (events + 1)) (events + 1)
free-keeps life size events within some sound =
    let left : ℕ = life.blocks - 1 in
    let block : life.blocks ≡ left + 1 = omega arith in
    let product : events * life.blocks ≡ events * left + events =
    ap (λ (b : ℕ). events * b) block ∙ more-product events left in
    let next = next-product events left in
    let square = next-square events in
    let few = sound.blocks_within in
    let calls = sound.calls_within in
    let lived = sound.lived in
    let lived_within = sound.lived_within in
    let times = sound.times_within in
    let live = sound.live_within in
    record {
      lived = omega arith;
      lived_within = omega arith;
      times_within = omega arith;
      live_within = omega arith;
      most_within = sound.most_within;
      allocated_within = sound.allocated_within;
      blocks_within = omega arith;
      most_blocks_within = sound.most_blocks_within;
      calls_within = omega arith;
    }

other-keeps : (life : Life) (events : ℕ) → IsLife life events → IsLife life (events + 1)
other-keeps life events sound =
    let next = next-product events life.blocks in
    let square = next-square events in
    let few = sound.blocks_within in
    let calls = sound.calls_within in
    let lived = sound.lived in
    let lived_within = sound.lived_within in
    let times = sound.times_within in
    record {
      lived = omega arith;
      lived_within = omega arith;
      times_within = omega arith;
      live_within = sound.live_within;
      most_within = sound.most_within;
      allocated_within = sound.allocated_within;
      blocks_within = sound.blocks_within;
      most_blocks_within = sound.most_blocks_within;
      calls_within = omega arith;
    }

-- one stack's sums are changed, and there is one event more
lives-set : (events : ℕ) (lives : List Life) (stack : ℕ) (life : Life) → stack < length lives → events < 2 ^ 32
    → AreLives events lives → IsLife life (events + 1) → AreLives (events + 1) (set lives stack life)
lives-set events lives stack life held few are sound =
    let count = length-set lives stack life in
    record {
      stack_0 = omega (arith, count, are.stack_0);
      stacks_within = omega (arith, count, are.stacks_within);
      events_within = omega arith;
      each_stack = λ n. elim (eqb_tells n stack) [
        | inl own ↦ subst (λ (l : Life). IsLife l (events + 1))
            (sym (ap (λ (m : ℕ). life_at (set lives stack life) m) own.1
            ∙ get_or-set_same lives stack life no_sums held))
            sound
        | inr apart ↦ subst (λ (l : Life). IsLife l (events + 1))
            (sym (get_or-set_other lives stack n life no_sums apart.1))
            (other-keeps (life_at lives n) events (are.each_stack n))
      ];
    }

-- a choice by a test whose answer is known
chosen : (test answer : Bool) (x y : ℕ) → test ≡ answer → cond {A = ℕ} test x y ≡ cond {A = ℕ} answer x y
chosen test answer x y is = ap (λ (b : Bool). cond {A = ℕ} b x y) is

-- an event that is no allocation in a stack allocates nothing there
no-alloc_size : (n : ℕ) (event : Event) → is_alloc_in n event ≡ false → alloc_size_in n event ≡ 0
no-alloc_size n (Alloc info stack size) isnt = chosen _ _ size 0 isnt
no-alloc_size n (Free info stack size) isnt = refl
no-alloc_size n (Tick ms) isnt = refl

no-free_size : (n : ℕ) (event : Event) → is_free_in n event ≡ false → free_size_in n event ≡ 0
no-free_size n (Alloc info stack size) isnt = refl
no-free_size n (Free info stack size) isnt = chosen _ _ size 0 isnt
no-free_size n (Tick ms) isnt = refl

-- what an event changes of each stack, the others told by what it is to them
other-moves : (life : Life) (events n : ℕ) (event : Event) → IsLife life events → is_counted event ≡ true
    → is_alloc_in n event ≡ false → is_free_in n event ≡ false
    → Moves (figures_of events life) (figures_of (events + 1) life) n event
other-moves life events n event sound is alloc free =
    let none : one_if (is_alloc_in n event) ≡ 0 = ap one_if alloc in
    let none_freed : one_if (is_free_in n event) ≡ 0 = ap one_if free in
    let size : alloc_size_in n event ≡ 0 = no-alloc_size n event alloc in
    let freed : free_size_in n event ≡ 0 = no-free_size n event free in
    let test : nat_lt life.most_bytes life.live ≡ false = le-ltb _ _ sound.live_within in
    let next = next-product events life.blocks in
    let lived = sound.lived in
    record {
      tb = omega arith;
      tbk = omega arith;
      tl = omega arith;
      mb = sym (chosen _ _ life.live life.most_bytes test);
      mbk = sym (chosen _ _ life.blocks life.most_blocks test);
      eb = omega arith;
      ebk = omega arith;
    }

alloc-moves : (life : Life) (events stack info size : ℕ) → IsLife life events
    → Moves (figures_of events life) (figures_of (events + 1) (with_alloc life size (events + 1))) stack
    (Alloc info stack size)
alloc-moves life events stack info size sound =
    let own : (stack == stack) ≡ true = eq-eqb stack stack refl in
    let one : one_if (is_alloc_in stack (Alloc info stack size)) ≡ 1 = ap one_if own in
    let added : alloc_size_in stack (Alloc info stack size) ≡ size = chosen _ _ size 0 own in
    let next = next-product events (life.blocks + 1) in
    let more = more-product events life.blocks in
    let lived = sound.lived in
    record {
      tb = omega arith;
      tbk = omega arith;
      tl = omega arith;
      mb = refl;
      mbk = refl;
      eb = omega arith;
      ebk = omega arith;
    }

free-moves : (life : Life) (events stack info size : ℕ) → size ≤ life.live → 0 < life.blocks → IsLife life events
    → Moves (figures_of events life) (figures_of (events + 1) (with_free life size (events + 1))) stack
    (Free info stack size)
free-moves life events stack info size within some sound =
    let own : (stack == stack) ≡ true = eq-eqb stack stack refl in
    let one : one_if (is_free_in stack (Free info stack size)) ≡ 1 = ap one_if own in
    let removed : free_size_in stack (Free info stack size) ≡ size = chosen _ _ size 0 own in
    let test : nat_lt life.most_bytes (life.live - size) ≡ false =
    le-ltb _ _ (let most = sound.live_within in omega arith) in
    let left : ℕ = life.blocks - 1 in
    let block : life.blocks ≡ left + 1 = omega arith in
    let product : events * life.blocks ≡ events * left + events =
    ap (λ (b : ℕ). events * b) block ∙ more-product events left in
    let next = next-product events left in
    let lived = sound.lived in
    record {
      tb = omega arith;
      tbk = omega arith;
      tl = omega arith;
      mb = sym (chosen _ _ (life.live - size) life.most_bytes test);
      mbk = sym (chosen _ _ (life.blocks - 1) life.most_blocks test);
      eb = omega arith;
      ebk = omega arith;
    }

-- no stack is held in no list
nothing-at : (n : ℕ) → life_at [] n ≡ no_sums
nothing-at zero = refl
nothing-at (suc n) = refl

-- a stack's figures of no events
none-of : (n : ℕ) → AreFiguresOf no_figures n []
none-of n = record {
  tb_is = refl;
  tbk_is = refl;
  tl_is = refl;
  most = record {
    moment = 0;
    within = omega arith;
    greatest = λ k within. (let none : k ≡ 0 = omega arith in rw none (omega arith));
    least = λ k below. absurd (omega (arith, below));
    bytes_are = refl;
    blocks_are = refl;
  };
  eb_is = refl;
  ebk_is = refl;
  live_and_freed = refl;
  blocks_and_frees = refl;
}

-- lifetimes of no events stand for the empty list
pub stands-new : StandsFor (state_of 0 (no_sums ∷ [])) []
stands-new = record {
  events_is = refl;
  each_stack =
      λ n. subst (λ (f : LifeFigures). AreFiguresOf f n [])
      (sym (figures-are 0 (no_sums ∷ []) n ∙ ap (λ (l : Life). figures_of 0 l) (more-is [] n)
      ∙ ap (λ (l : Life). figures_of 0 l) (nothing-at n) ∙ no-figures 0))
      (none-of n);
}

-- figures that move from a list's move to those of the list with the event
pub stands-move : (old new : LifeState) (list : List Event) (event : Event) → is_counted event ≡ true
    → new.events ≡ old.events + 1 → ((n : ℕ) → Moves (figures_at old n) (figures_at new n) n event) → StandsFor old list
    → StandsFor new (list ++ event ∷ [])
stands-move old new list event is count moves stands = record {
  events_is = count ∙ ap (λ (n : ℕ). n + 1) stands.events_is ∙ sym (count-push list event is);
  each_stack = λ n. figures-move _ _ n list event is (stands.each_stack n) (moves n);
}

-- an event of a stack moves the figures of each stack, where the stack's own sums move by it
set-moves :
    (events : ℕ) (lives : List Life) (stack : ℕ) (life : Life) (event : Event)
    → stack < length lives
    → AreLives events lives
    → is_counted event ≡ true
    → ((n : ℕ) → n ≢ stack → is_alloc_in n event ≡ false)
    → ((n : ℕ) → n ≢ stack → is_free_in n event ≡ false)
    → Moves (figures_of events (life_at lives stack)) (figures_of (events + 1) life) stack event
    → (n : ℕ)
    → Moves (figures_at (state_of events lives) n) (figures_at (state_of (events + 1) (set lives stack life)) n) n event
set-moves events lives stack life event held are is no_alloc no_free moves n =
    rw (figures-are events lives n, figures-are (events + 1) (set lives stack life) n)
    (elim (eqb_tells n stack) [
      | inl own ↦
          rw (own.1, get_or-set_same lives stack life no_sums held) moves
      | inr apart ↦
          rw (get_or-set_other lives stack n life no_sums apart.1)
          (other-moves (life_at lives n) events n event (are.each_stack n) is (no_alloc n apart.1)
          (no_free n apart.1))
    ])

-- events of another stack than the number
alloc-apart : (info stack size n : ℕ) → n ≢ stack → is_alloc_in n (Alloc info stack size) ≡ false
alloc-apart info stack size n apart = elim (eqb_tells stack n) [
  | inl is ↦ absurd (apart (sym is.1))
  | inr isnt ↦ isnt.0
]

free-apart : (info stack size n : ℕ) → n ≢ stack → is_free_in n (Free info stack size) ≡ false
free-apart info stack size n apart = elim (eqb_tells stack n) [
  | inl is ↦ absurd (apart (sym is.1))
  | inr isnt ↦ isnt.0
]

-- an allocation that a trace can have fits into its stack's sums
alloc-fits : (events : ℕ) (lives : List Life) (list : List Event) (info stack size : ℕ)
    → StandsFor (state_of events lives) list → AreBalanced stack (list ++ Alloc info stack size ∷ [])
    → (life_at lives stack).allocated + size ≤ 2 ^ 62
alloc-fits events lives list info stack size stands balanced =
    let is : (life_at lives stack).allocated ≡ allocated_in stack list =
    ap (λ (f : LifeFigures). f.tb) (sym (figures-are events lives stack)) ∙ (stands.each_stack stack).tb_is in
    let added : alloc_size_in stack (Alloc info stack size) ≡ size = chosen _ _ size 0 (eq-eqb stack stack refl) in
    let push = sum_by_push (alloc_size_in stack) list (Alloc info stack size) in
    omega (arith, allocated-within stack (list ++ Alloc info stack size ∷ []), balanced.allocated)

-- a free that a trace can have is of a block that is live in its stack
pub record IsLiveBlock (life : Life) (size : ℕ) : Type 0 where
  pub bytes : size ≤ life.live
  pub block : 0 < life.blocks

free-fits : (events : ℕ) (lives : List Life) (list : List Event) (info stack size : ℕ)
    → StandsFor (state_of events lives) list → AreBalanced stack (list ++ Free info stack size ∷ [])
    → IsLiveBlock (life_at lives stack) size
free-fits events lives list info stack size stands balanced =
    let live : (life_at lives stack).live + freed_in stack list ≡ allocated_in stack list =
    ap (λ (f : LifeFigures). f.eb + freed_in stack list) (sym (figures-are events lives stack))
    ∙ (stands.each_stack stack).live_and_freed in
    let blocks : (life_at lives stack).blocks + frees_in stack list ≡ calls_in stack list =
    ap (λ (f : LifeFigures). f.ebk + frees_in stack list) (sym (figures-are events lives stack))
    ∙ (stands.each_stack stack).blocks_and_frees in
    let removed : free_size_in stack (Free info stack size) ≡ size = chosen _ _ size 0 (eq-eqb stack stack refl) in
    let one : one_if (is_free_in stack (Free info stack size)) ≡ 1 = ap one_if (eq-eqb stack stack refl) in
    let freed = sum_by_push (free_size_in stack) list (Free info stack size) in
    let allocated = sum_by_push (alloc_size_in stack) list (Free info stack size) in
    let frees = sum_by_push (λ (e : Event). cond {A = ℕ} (is_free_in stack e) 1 0) list (Free info stack size) in
    let calls = sum_by_push (λ (e : Event). cond {A = ℕ} (is_alloc_in stack e) 1 0) list (Free info stack size) in
    record {
      bytes = omega (arith, balanced.bytes);
      block = omega (arith, balanced.blocks);
    }

-- an event's stack is one of those that have sums
alloc-held : (events : ℕ) (lives : List Life) (info stack size : ℕ)
    → IsOfHeld (state_of events lives) (Alloc info stack size) → stack < length lives
alloc-held events lives info stack size held = rw length-map at held

free-held : (events : ℕ) (lives : List Life) (info stack size : ℕ)
    → IsOfHeld (state_of events lives) (Free info stack size) → stack < length lives
free-held events lives info stack size held = rw length-map at held

-- the sums of a held stack, as they are read
pub read-life : (lives : List Life) (stack : ℕ) (life : Life) → stack < length lives → life ≡ get_or lives stack life
    → life ≡ life_at lives stack
read-life lives stack life held is = is ∙ get_or_default lives stack life no_sums held

-- some list that the state stands for is one that a trace can have with the event
abbrev pub IsPossible : LifeState → Event → Type 0
IsPossible state event = (list : List Event) × (StandsFor state list × ArePossible (list ++ event ∷ []))

-- in such a list no stack has more freed than allocated
abbrev pub AreAllBalanced : Type 0
AreAllBalanced = (list : List Event) (stack : ℕ) → ArePossible list → AreBalanced stack list

-- the stack of an allocation has these sums, and the allocation fits into them
pub record TakesAlloc (lives : List Life) (stack size : ℕ) (life : Life) : Type 0 where
  pub held : stack < length lives
  pub read : life ≡ life_at lives stack
  pub fits : life.allocated + size ≤ 2 ^ 62

pub takes-alloc :
    (state : LifeState) (events : ℕ) (lives : List Life) (event : Event) (info stack size : ℕ) (life : Life)
    → state_of events lives ≡ state
    → event ≡ Alloc info stack size
    → IsOfHeld state event
    → IsPossible state event
    → AreAllBalanced
    → life ≡ get_or lives stack life
    → TakesAlloc lives stack size life
takes-alloc state events lives event info stack size life view is held possible balanced reads =
    let stack_held = alloc-held events lives info stack size (rw (← view, is) at held) in
    let stands = rw (← view) at possible.1.0 in
    let read = read-life lives stack life stack_held reads in
    record {
      held = stack_held;
      read = read;
      fits =
          rw read (alloc-fits events lives possible.0 info stack size stands
          (balanced _ stack (rw is at possible.1.1)));
    }

-- the stack of a free has these sums, and the block is live in it
pub record TakesFree (lives : List Life) (stack size : ℕ) (life : Life) : Type 0 where
  pub held : stack < length lives
  pub read : life ≡ life_at lives stack
  pub block : IsLiveBlock life size

pub takes-free :
    (state : LifeState) (events : ℕ) (lives : List Life) (event : Event) (info stack size : ℕ) (life : Life)
    → state_of events lives ≡ state
    → event ≡ Free info stack size
    → IsOfHeld state event
    → IsPossible state event
    → AreAllBalanced
    → life ≡ get_or lives stack life
    → TakesFree lives stack size life
takes-free state events lives event info stack size life view is held possible balanced reads =
    let stack_held = free-held events lives info stack size (rw (← view, is) at held) in
    let stands = rw (← view) at possible.1.0 in
    let read = read-life lives stack life stack_held reads in
    record {
      held = stack_held;
      read = read;
      block =
          rw read (free-fits events lives possible.0 info stack size stands (balanced _ stack (rw is at possible.1.1)));
    }

-- the sums of all stacks and the figures after an event
pub record HasMoved (events : ℕ) (lives : List Life) (stack : ℕ) (life : Life) (event : Event) : Type 0 where
  pub kept : AreLives (events + 1) (set lives stack life)
  pub moves : (n : ℕ)
      → Moves (figures_at (state_of events lives) n)
      (figures_at (state_of (events + 1) (set lives stack life)) n) n event

pub moved-alloc : (events : ℕ) (lives : List Life) (info stack size : ℕ) (old new : Life) → events < 2 ^ 32
    → AreLives events lives → TakesAlloc lives stack size old → new ≡ with_alloc old size (events + 1)
    → HasMoved events lives stack new (Alloc info stack size)
moved-alloc events lives info stack size old new few are takes is =
    let sound : IsLife old events = rw takes.read (are.each_stack stack) in
    record {
      kept = rw is (lives-set events lives stack _ takes.held few are (alloc-keeps old size events takes.fits sound));
      moves =
          rw is (set-moves events lives stack _ (Alloc info stack size) takes.held are refl
          (alloc-apart info stack size)
          (λ n apart. refl)
          (rw (← takes.read) (alloc-moves old events stack info size sound)));
    }

pub moved-free : (events : ℕ) (lives : List Life) (info stack size : ℕ) (old new : Life) → events < 2 ^ 32
    → AreLives events lives → TakesFree lives stack size old → new ≡ with_free old size (events + 1)
    → HasMoved events lives stack new (Free info stack size)
moved-free events lives info stack size old new few are takes is =
    let sound : IsLife old events = rw takes.read (are.each_stack stack) in
    record {
      kept =
          rw is (lives-set events lives stack _ takes.held few are
          (free-keeps old size events takes.block.bytes takes.block.block sound));
      moves =
          rw is (set-moves events lives stack _ (Free info stack size) takes.held are refl (λ n apart. refl)
          (free-apart info stack size)
          (rw (← takes.read) (free-moves old events stack info size takes.block.bytes takes.block.block sound)));
    }

-- a clock value adds no event
tick-adds : (f : Event → ℕ) (list : List Event) (ms : ℕ) → f (Tick ms) ≡ 0
    → sum_by f (list ++ Tick ms ∷ []) ≡ sum_by f list
tick-adds f list ms none = sum_by_push f list (Tick ms) ∙ ap (λ (n : ℕ). sum_by f list + n) none ∙ add-zero _

-- the most is that of the allocations and frees
most-same : (bytes blocks n : ℕ) (list more : List Event) → counted more ≡ counted list
    → event_count more ≡ event_count list → HasMost bytes blocks n list → HasMost bytes blocks n more
most-same bytes blocks n list more same count most =
    let live : (k : ℕ) → live_after n k more ≡ live_after n k list =
    λ k. ap (λ (events : List Event). live_in n (take k events)) same in
    record {
      moment = most.moment;
      within = omega (arith, most.within);
      greatest =
          λ k within. (let here = live k in let peak = live most.moment in let less = most.greatest k
          (omega arith) in omega arith);
      least =
          λ k below. (let here = live k in let peak = live most.moment in let less = most.least k below in omega arith);
      bytes_are = most.bytes_are ∙ sym (live most.moment);
      blocks_are = most.blocks_are ∙ sym (ap (λ (events : List Event). blocks_in n (take most.moment events)) same);
    }

tick-figures : (figures : LifeFigures) (n : ℕ) (list : List Event) (ms : ℕ) → AreFiguresOf figures n list
    → AreFiguresOf figures n (list ++ Tick ms ∷ [])
tick-figures figures n list ms are =
    let allocated = tick-adds (alloc_size_in n) list ms refl in
    let freed = tick-adds (free_size_in n) list ms refl in
    let calls = tick-adds (λ (e : Event). cond {A = ℕ} (is_alloc_in n e) 1 0) list ms refl in
    let frees = tick-adds (λ (e : Event). cond {A = ℕ} (is_free_in n e) 1 0) list ms refl in
    let count = tick-adds (λ (e : Event). cond {A = ℕ} (is_counted e) 1 0) list ms refl in
    let began : alloc_times n (list ++ Tick ms ∷ []) ≡ alloc_times n list =
    ap (λ (xs : List (ℕ × Event)). sum_by (λ (pair : ℕ × Event). cond {A = ℕ} (is_alloc_in n pair.1) pair.0 0) xs)
    (timed-tick list ms) in
    let ended : free_times n (list ++ Tick ms ∷ []) ≡ free_times n list =
    ap (λ (xs : List (ℕ × Event)). sum_by (λ (pair : ℕ × Event). cond {A = ℕ} (is_free_in n pair.1) pair.0 0) xs)
    (timed-tick list ms) in
    record {
      tb_is = are.tb_is ∙ sym allocated;
      tbk_is = are.tbk_is ∙ sym calls;
      tl_is = rw (began, ended, count) are.tl_is;
      most = most-same _ _ n list (list ++ Tick ms ∷ []) (counted-tick list ms) count are.most;
      eb_is = omega (arith, are.eb_is);
      ebk_is = omega (arith, are.ebk_is);
      live_and_freed = omega (arith, are.live_and_freed);
      blocks_and_frees = omega (arith, are.blocks_and_frees);
    }

pub stands-tick : (state : LifeState) (list : List Event) (ms : ℕ) → StandsFor state list
    → StandsFor state (list ++ Tick ms ∷ [])
stands-tick state list ms stands = record {
  events_is = stands.events_is ∙ sym (tick-adds (λ (e : Event). cond {A = ℕ} (is_counted e) 1 0) list ms refl);
  each_stack = λ n. tick-figures (figures_at state n) n list ms (stands.each_stack n);
}
