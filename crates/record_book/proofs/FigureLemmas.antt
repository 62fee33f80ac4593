-- Figures of an order, and those of the threads alone.
use Rattle.std.proofs.Common.{◌≡◌, ℕ, zero, suc, ◌+◌, ◌<◌, ◌≤◌, ◌==◌, ◌⊎◌, inl, inr, Bool, true, false, cond, List, []}
use Rattle.std.proofs.Common.{◌∷◌, ◌++◌, length, reverse, take, Option, None, Some, refl, sym, ap, ap₂, ◌∙◌, subst}
use Rattle.std.proofs.Common.{arith}
use Rattle.std.specs.Prelude.{slice_get}
use Rattle.std.specs.List.{AllByRecursion}
use Rattle.std.proofs.lemmas.Bool.{cases_lt}
use Rattle.std.proofs.lemmas.Bool.Decides.{nat_tests}
use Rattle.std.proofs.lemmas.List.{take_all}
use Rattle.std.proofs.lemmas.List.Sums.{sum_by-cons}
use Rattle.std.proofs.lemmas.Option.{get_or_from_slice_get, slice_get_within}
use Rattle.std.proofs.Math.Seq.{take-suc}
use Rattle.record_scripts.specs.Events.{Event, allocation, free, event_count, events_of}
use Rattle.record_scripts.specs.Turns.{Turn}
use Rattle.record_book.specs.Actions.{Action, actions, actions_back, events_at, times, with_event}
use Rattle.record_book.specs.Figures.{Held, alone, bytes_held, every, greatest_below, has_id, held_after, held_with}
use Rattle.record_book.specs.Figures.{live_bytes, own_peak, peak, sum_below, weigh, weigh_events, with_events, without}
use Rattle.record_book.specs.Orders.{IsInterleaving}
use Rattle.record_book.proofs.FinishLemmas.{none-at}
use Rattle.record_book.proofs.OrderLemmas.{times-reverse}
use Rattle.record_book.proofs.SumLemmas.{greatest-less, sum-add, sum-first, sum-less, sum-none, sum-one, sum-same}
use Rattle.record_book.proofs.TallyOrders.{with_events-append}

-- the actions of a thread
abbrev pub of_thread : ℕ → List Action → List Action
of_thread thread [] = []
of_thread thread (action ∷ before) =
    cond (action.thread == thread) (action ∷ of_thread thread before) (of_thread thread before)

-- the blocks of a thread
abbrev pub held_by : ℕ → List Held → List Held
held_by thread [] = []
held_by thread (block ∷ older) = cond (block.thread == thread) (block ∷ held_by thread older) (held_by thread older)

-- what a thread does in an order is what it does alone
there : {X : Type 0} (xs : List X) (k : ℕ) → k < length xs → (x : X) × (slice_get xs k ≡ Some x)
there [] k within = absurd (omega (arith, within))
there (x ∷ xs) zero within = (x, refl)
there (x ∷ xs) (suc k) within = there xs k (omega (arith, within))

alone-event : (scripts : List (List Turn)) (thread n : ℕ) (rest : List Action) (event : Option Event)
    → slice_get (events_at scripts thread) n ≡ event → n < length (events_at scripts thread)
    → of_thread thread rest ≡ with_events thread (take n (events_at scripts thread)) []
    → of_thread thread (with_event thread event rest) ≡ with_events thread (take (suc n) (events_at scripts thread)) []
alone-event scripts thread n rest None at within ih =
    let found = there (events_at scripts thread) n within in
    absurd (grind (arith, at, found.1))
alone-event scripts thread n rest (Some event) at within ih =
    let events = events_at scripts thread in
    own (thread == thread) refl ∙ ap (λ (before : List Action). record { thread = thread; event = event } ∷ before) ih
    ∙ sym (ap (λ (all : List Event). with_events thread all [])
    (take-suc events n event within
    ∙ ap (λ (e : Event). take n events ++ e ∷ []) (get_or_from_slice_get events n event event at))
    ∙ with_events-append thread (take n events) (event ∷ []) [])
  where
    own : (b : Bool) → (thread == thread) ≡ b
        → cond (thread == thread) (record { thread = thread; event = event } ∷ of_thread thread rest)
        (of_thread thread rest)
        ≡ record { thread = thread; event = event } ∷ of_thread thread rest
    own true p =
        ap (λ (b : Bool). cond b (record { thread = thread; event = event } ∷ of_thread thread rest)
        (of_thread thread rest)) p
    own false p = absurd (grind (arith, nat_tests, p))

other-event : (scripts : List (List Turn)) (entry thread : ℕ) (rest : List Action) (event : Option Event)
    → (entry == thread) ≡ false → of_thread thread (with_event entry event rest) ≡ of_thread thread rest
other-event scripts entry thread rest None p = refl
other-event scripts entry thread rest (Some event) p =
    ap (λ (b : Bool). cond b (record { thread = entry; event = event } ∷ of_thread thread rest) (of_thread thread rest))
    p

pub thread-back : (scripts : List (List Turn)) (thread : ℕ) (back : List ℕ)
    → times thread back ≤ length (events_at scripts thread)
    → of_thread thread (actions_back scripts back)
    ≡ with_events thread (take (times thread back) (events_at scripts thread)) []
thread-back scripts thread [] few = refl
thread-back scripts thread (entry ∷ back) few =
    by (λ less. thread-back scripts thread back less) (entry == thread) refl few
  where
    by : (times thread back ≤ length (events_at scripts thread)
        → of_thread thread (actions_back scripts back)
        ≡ with_events thread (take (times thread back) (events_at scripts thread)) [])
        → (b : Bool) → (entry == thread) ≡ b
        → cond b 1 0 + times thread back ≤ length (events_at scripts thread)
        → of_thread thread
        (with_event entry (slice_get (events_at scripts entry) (times entry back)) (actions_back scripts back))
        ≡ with_events thread (take (cond b 1 0 + times thread back) (events_at scripts thread)) []
    by ih true p few =
        let same : thread ≡ entry = grind (arith, nat_tests, p) in
        let up : suc (times thread back) ≡ 1 + times thread back = omega arith in
        subst (λ (t : ℕ). of_thread thread
        (with_event t (slice_get (events_at scripts t) (times t back)) (actions_back scripts back))
        ≡ with_events thread (take (1 + times thread back) (events_at scripts thread)) []) same
        (alone-event scripts thread (times thread back) (actions_back scripts back)
        (slice_get (events_at scripts thread) (times thread back)) refl (omega (arith, few)) (ih (omega (arith, few)))
        ∙ ap (λ (n : ℕ). with_events thread (take n (events_at scripts thread)) []) up)
    by ih false p few =
        let same : times thread back ≡ 0 + times thread back = omega arith in
        other-event scripts entry thread (actions_back scripts back)
        (slice_get (events_at scripts entry) (times entry back)) p
        ∙ ih (omega (arith, few))
        ∙ ap (λ (n : ℕ). with_events thread (take n (events_at scripts thread)) []) same

pub thread-alone : (scripts : List (List Turn)) (order : List ℕ) (thread : ℕ) → IsInterleaving scripts order
    → of_thread thread (actions scripts order) ≡ alone scripts thread
unfolding actions
thread-alone scripts order thread is =
    let all : times thread (reverse order) ≡ length (events_at scripts thread) =
    times-reverse thread order ∙ is.exactly thread in
    thread-back scripts thread (reverse order) (omega (arith, all))
    ∙ ap (λ (events : List Event). with_events thread events [])
    (take_all (times thread (reverse order)) (events_at scripts thread) (omega (arith, all)))

-- all actions are of threads that are there
abbrev AreBelow : ℕ → List Action → Type 0
AreBelow n actions = AllByRecursion (λ action. action.thread < n) actions

below-back : (scripts : List (List Turn)) (back : List ℕ) → AreBelow (length scripts) (actions_back scripts back)
below-back scripts [] = tt
below-back scripts (entry ∷ back) =
    by (below-back scripts back) (slice_get (events_at scripts entry) (times entry back)) refl
  where
    is-there : (event : Event) → slice_get (events_at scripts entry) (times entry back) ≡ Some event
        → (entry < length scripts) ⊎ (length scripts ≤ entry) → entry < length scripts
    is-there event at (inl less) = less
    is-there event at (inr past) =
        absurd (omega
        (arith, slice_get_within (events_at scripts entry) (times entry back) event at, none-at scripts entry past))

    by : AreBelow (length scripts) (actions_back scripts back) → (event : Option Event)
        → slice_get (events_at scripts entry) (times entry back) ≡ event
        → AreBelow (length scripts) (with_event entry event (actions_back scripts back))
    by rest None at = rest
    by rest (Some event) at = (is-there event at (cases_lt entry (length scripts)), rest)

pub below : (scripts : List (List Turn)) (order : List ℕ) → AreBelow (length scripts) (actions scripts order)
unfolding actions
below scripts order = below-back scripts (reverse order)

below-without : (n thread id : ℕ) (blocks : List Held) → AllByRecursion (λ block. block.thread < n) blocks
    → AllByRecursion (λ block. block.thread < n) (without thread id blocks)
below-without n thread id [] all = tt
below-without n thread id (block ∷ older) all = by (below-without n thread id older all.1) (has_id thread id block)
  where
    by : AllByRecursion (λ block. block.thread < n) (without thread id older) → (b : Bool)
        → AllByRecursion (λ block. block.thread < n)
        (cond b (without thread id older) (block ∷ without thread id older))
    by rest true = rest
    by rest false = (all.0, rest)

below-held : (n : ℕ) (actions : List Action) → AreBelow n actions
    → AllByRecursion (λ block. block.thread < n) (held_after actions)
below-held n [] all = tt
below-held n (action ∷ before) all = by (below-held n before all.1) action.event
  where
    by : AllByRecursion (λ block. block.thread < n) (held_after before) → (event : Event)
        → AllByRecursion (λ block. block.thread < n) (held_with action.thread event (held_after before))
    by rest (allocation id size ips) = (all.0, below-without n action.thread id (held_after before) rest)
    by rest (free id rejoined) = below-without n action.thread id (held_after before) rest

-- the live blocks of a thread are those that it has alone
by-own : (thread id : ℕ) (blocks : List Held)
    → held_by thread (without thread id blocks) ≡ without thread id (held_by thread blocks)
by-own thread id [] = refl
by-own thread id (block ∷ older) =
    by (by-own thread id older) (has_id thread id block) (block.thread == thread) refl refl
  where
    by : held_by thread (without thread id older) ≡ without thread id (held_by thread older) → (h k : Bool)
        → has_id thread id block ≡ h → (block.thread == thread) ≡ k
        → held_by thread (cond h (without thread id older) (block ∷ without thread id older))
        ≡ without thread id (cond k (block ∷ held_by thread older) (held_by thread older))
    by ih true true p q =
        ih
        ∙ sym (ap
        (λ (b : Bool). cond b (without thread id (held_by thread older))
        (block ∷ without thread id (held_by thread older)))
        p)
    by ih true false p q = ih
    by ih false true p q =
        ap (λ (b : Bool). cond b (block ∷ held_by thread (without thread id older))
        (held_by thread (without thread id older))) q
        ∙ ap (λ (rest : List Held). block ∷ rest) ih
        ∙ sym (ap
        (λ (b : Bool). cond b (without thread id (held_by thread older))
        (block ∷ without thread id (held_by thread older)))
        p)
    by ih false false p q =
        ap (λ (b : Bool). cond b (block ∷ held_by thread (without thread id older))
        (held_by thread (without thread id older))) q
        ∙ ih

by-other : (thread other id : ℕ) (blocks : List Held) → (other == thread) ≡ false
    → held_by thread (without other id blocks) ≡ held_by thread blocks
by-other thread other id [] apart = refl
by-other thread other id (block ∷ older) apart =
    by (by-other thread other id older apart) (has_id other id block) (block.thread == thread) refl refl
  where
    by : held_by thread (without other id older) ≡ held_by thread older → (h k : Bool) → has_id other id block ≡ h
        → (block.thread == thread) ≡ k
        → held_by thread (cond h (without other id older) (block ∷ without other id older))
        ≡ cond k (block ∷ held_by thread older) (held_by thread older)
    by ih true true p q = absurd (grind (arith, nat_tests, p, q, apart))
    by ih true false p q = ih
    by ih false true p q =
        ap (λ (b : Bool). cond b (block ∷ held_by thread (without other id older))
        (held_by thread (without other id older))) q
        ∙ ap (λ (rest : List Held). block ∷ rest) ih
    by ih false false p q =
        ap (λ (b : Bool). cond b (block ∷ held_by thread (without other id older))
        (held_by thread (without other id older))) q
        ∙ ih

pub held-thread : (thread : ℕ) (actions : List Action)
    → held_after (of_thread thread actions) ≡ held_by thread (held_after actions)
held-thread thread [] = refl
held-thread thread (action ∷ before) = by (held-thread thread before) (action.thread == thread) refl action.event
  where
    by : held_after (of_thread thread before) ≡ held_by thread (held_after before) → (b : Bool)
        → (action.thread == thread) ≡ b → (event : Event)
        → held_after
        (cond b (record { thread = action.thread; event = event } ∷ of_thread thread before) (of_thread thread before))
        ≡ held_by thread (held_with action.thread event (held_after before))
    by ih true p (allocation id size ips) =
        let block : Held = record { thread = action.thread; id = id; size = size; ips = ips } in
        let same : thread ≡ action.thread = grind (arith, nat_tests, p) in
        ap (λ (blocks : List Held). block ∷ without action.thread id blocks) ih
        ∙ ap (λ (rest : List Held). block ∷ rest)
        (subst
        (λ (t : ℕ). without t id (held_by thread (held_after before))
        ≡ held_by thread (without t id (held_after before)))
        same (sym (by-own thread id (held_after before))))
        ∙ sym (ap
        (λ (b : Bool). cond b (block ∷ held_by thread (without action.thread id (held_after before)))
        (held_by thread (without action.thread id (held_after before))))
        p)
    by ih true p (free id rejoined) =
        let same : thread ≡ action.thread = grind (arith, nat_tests, p) in
        ap (λ (blocks : List Held). without action.thread id blocks) ih
        ∙ subst
        (λ (t : ℕ). without t id (held_by thread (held_after before))
        ≡ held_by thread (without t id (held_after before)))
        same (sym (by-own thread id (held_after before)))
    by ih false p (allocation id size ips) =
        let block : Held = record { thread = action.thread; id = id; size = size; ips = ips } in
        ih ∙ sym (by-other thread action.thread id (held_after before) p)
        ∙ sym (ap
        (λ (b : Bool). cond b (block ∷ held_by thread (without action.thread id (held_after before)))
        (held_by thread (without action.thread id (held_after before))))
        p)
    by ih false p (free id rejoined) = ih ∙ sym (by-other thread action.thread id (held_after before) p)

-- what all blocks weigh is the sum over the threads
blocks-sum : (weight : Held → ℕ) (n : ℕ) (blocks : List Held) → AllByRecursion (λ block. block.thread < n) blocks
    → weigh weight blocks ≡ sum_below (λ thread. weigh weight (held_by thread blocks)) n
blocks-sum weight n [] all = sym (sum-none n)
blocks-sum weight n (block ∷ older) all =
    let rest = blocks-sum weight n older all.1 in
    let parts =
    sum-same (λ (thread : ℕ). weigh weight (held_by thread (block ∷ older)))
    (λ (thread : ℕ). cond (block.thread == thread) (weight block) 0 + weigh weight (held_by thread older)) n
    (λ thread. by thread (block.thread == thread)) in
    let whole =
    sum-add (λ (thread : ℕ). cond (block.thread == thread) (weight block) 0)
    (λ (thread : ℕ). weigh weight (held_by thread older)) n in
    let one = sum-one block.thread (weight block) n all.0 in
    sym (parts ∙ whole ∙ ap₂ (λ (x y : ℕ). x + y) one (sym rest))
  where
    by : (thread : ℕ) (b : Bool)
        → weigh weight (cond b (block ∷ held_by thread older) (held_by thread older))
        ≡ cond b (weight block) 0 + weigh weight (held_by thread older)
    by thread true = refl
    by thread false = omega arith

pub held-sum : (weight : Held → ℕ) (n : ℕ) (actions : List Action) → AreBelow n actions
    → weigh weight (held_after actions) ≡ sum_below (λ thread. weigh weight (held_after (of_thread thread actions))) n
held-sum weight n actions all =
    blocks-sum weight n (held_after actions) (below-held n actions all)
    ∙ sum-same (λ (thread : ℕ). weigh weight (held_by thread (held_after actions)))
    (λ (thread : ℕ). weigh weight (held_after (of_thread thread actions))) n
    (λ thread. ap (λ (blocks : List Held). weigh weight blocks) (sym (held-thread thread actions)))

pub events-sum : (weight : Event → ℕ) (n : ℕ) (actions : List Action) → AreBelow n actions
    → weigh_events weight actions ≡ sum_below (λ thread. weigh_events weight (of_thread thread actions)) n
events-sum weight n [] all = sym (sum-none n)
events-sum weight n (action ∷ before) all =
    let rest = events-sum weight n before all.1 in
    let parts = sum-same (λ (thread : ℕ). weigh_events weight (of_thread thread (action ∷ before)))
    (λ (thread : ℕ). cond (action.thread == thread) (weight action.event) 0
    + weigh_events weight (of_thread thread before))
    n (λ thread. by thread (action.thread == thread)) in
    let whole =
    sum-add (λ (thread : ℕ). cond (action.thread == thread) (weight action.event) 0)
    (λ (thread : ℕ). weigh_events weight (of_thread thread before)) n in
    let one = sum-one action.thread (weight action.event) n all.0 in
    sym (parts ∙ whole ∙ ap₂ (λ (x y : ℕ). x + y) one (sym rest))
  where
    by : (thread : ℕ) (b : Bool)
        → weigh_events weight (cond b (action ∷ of_thread thread before) (of_thread thread before))
        ≡ cond b (weight action.event) 0 + weigh_events weight (of_thread thread before)
    by thread true = refl
    by thread false = omega arith

-- the same of whole orders, over the threads alone
pub held-scripts : (weight : Held → ℕ) (scripts : List (List Turn)) (order : List ℕ) → IsInterleaving scripts order
    → weigh weight (held_after (actions scripts order))
    ≡ sum_below (λ thread. weigh weight (held_after (alone scripts thread))) (length scripts)
held-scripts weight scripts order is =
    held-sum weight (length scripts) (actions scripts order) (below scripts order)
    ∙ sum-same (λ (thread : ℕ). weigh weight (held_after (of_thread thread (actions scripts order))))
    (λ (thread : ℕ). weigh weight (held_after (alone scripts thread))) (length scripts)
    (λ thread. ap (λ (own : List Action). weigh weight (held_after own)) (thread-alone scripts order thread is))

pub events-scripts : (weight : Event → ℕ) (scripts : List (List Turn)) (order : List ℕ) → IsInterleaving scripts order
    → weigh_events weight (actions scripts order)
    ≡ sum_below (λ thread. weigh_events weight (alone scripts thread)) (length scripts)
events-scripts weight scripts order is =
    events-sum weight (length scripts) (actions scripts order) (below scripts order)
    ∙ sum-same (λ (thread : ℕ). weigh_events weight (of_thread thread (actions scripts order)))
    (λ (thread : ℕ). weigh_events weight (alone scripts thread)) (length scripts)
    (λ thread. ap (λ (own : List Action). weigh_events weight own) (thread-alone scripts order thread is))

-- the greatest total is no greater than the sum of the threads' own
peak-grows : (thread : ℕ) (action : Action) (before : List Action)
    → peak (of_thread thread before) ≤ peak (of_thread thread (action ∷ before))
peak-grows thread action before = by (action.thread == thread)
  where
    by : (b : Bool)
        → peak (of_thread thread before) ≤ peak (cond b (action ∷ of_thread thread before) (of_thread thread before))
    by true = omega arith
    by false = omega arith

now-within : (actions : List Action) → live_bytes every actions ≤ peak actions
now-within [] = omega arith
now-within (action ∷ before) = omega arith

pub peak-sum : (n : ℕ) (actions : List Action) → AreBelow n actions
    → peak actions ≤ sum_below (λ thread. peak (of_thread thread actions)) n
peak-sum n [] all = omega arith
peak-sum n (action ∷ before) all =
    let now = held-sum (bytes_held every) n (action ∷ before) all in
    let most =
    sum-less (λ (thread : ℕ). live_bytes every (of_thread thread (action ∷ before)))
    (λ (thread : ℕ). peak (of_thread thread (action ∷ before))) n
    (λ thread. now-within (of_thread thread (action ∷ before))) in
    let rest = peak-sum n before all.1 in
    let grown =
    sum-less (λ (thread : ℕ). peak (of_thread thread before))
    (λ (thread : ℕ). peak (of_thread thread (action ∷ before))) n (λ thread. peak-grows thread action before) in
    omega (arith, now, most, rest, grown)

-- and no less than each of them
by-within : (weight : Held → ℕ) (thread : ℕ) (blocks : List Held)
    → weigh weight (held_by thread blocks) ≤ weigh weight blocks
by-within weight thread [] = omega arith
by-within weight thread (block ∷ older) = by (by-within weight thread older) (block.thread == thread)
  where
    by : weigh weight (held_by thread older) ≤ weigh weight older → (b : Bool)
        → weigh weight (cond b (block ∷ held_by thread older) (held_by thread older)) ≤ weigh weight (block ∷ older)
    by rest true = omega (arith, rest)
    by rest false = omega (arith, rest)

own-within : (thread : ℕ) (actions : List Action)
    → live_bytes every (of_thread thread actions) ≤ live_bytes every actions
own-within thread actions =
    let same = ap (λ (blocks : List Held). weigh (bytes_held every) blocks) (held-thread thread actions) in
    omega (arith, same, by-within (bytes_held every) thread (held_after actions))

pub peak-least : (thread : ℕ) (actions : List Action) → peak (of_thread thread actions) ≤ peak actions
peak-least thread [] = omega arith
peak-least thread (action ∷ before) =
    by (peak-least thread before) (own-within thread (action ∷ before)) (action.thread == thread) refl
  where
    by : peak (of_thread thread before) ≤ peak before
        → live_bytes every (of_thread thread (action ∷ before)) ≤ live_bytes every (action ∷ before) → (b : Bool)
        → (action.thread == thread) ≡ b
        → peak (cond b (action ∷ of_thread thread before) (of_thread thread before)) ≤ peak (action ∷ before)
    by rest now true p =
        let here : live_bytes every (action ∷ of_thread thread before) ≤ live_bytes every (action ∷ before) =
        subst (λ (b : Bool). live_bytes every (cond b (action ∷ of_thread thread before) (of_thread thread before))
        ≤ live_bytes every (action ∷ before)) p now in
        omega (arith, rest, here)
    by rest now false p = omega (arith, rest)

pub least-peak : (scripts : List (List Turn)) (order : List ℕ) → IsInterleaving scripts order
    → greatest_below (own_peak scripts) (length scripts) ≤ peak (actions scripts order)
least-peak scripts order is =
    greatest-less (own_peak scripts) (length scripts) (peak (actions scripts order)) (λ thread.
    subst (λ (own : List Action). peak own ≤ peak (actions scripts order)) (thread-alone scripts order thread is)
    (peak-least thread (actions scripts order)))

pub greatest-peak : (scripts : List (List Turn)) (order : List ℕ) → IsInterleaving scripts order
    → peak (actions scripts order) ≤ sum_below (own_peak scripts) (length scripts)
greatest-peak scripts order is =
    let same =
    sum-same (λ (thread : ℕ). peak (of_thread thread (actions scripts order))) (own_peak scripts) (length scripts)
    (λ thread. ap (λ (own : List Action). peak own) (thread-alone scripts order thread is)) in
    omega (arith, same, peak-sum (length scripts) (actions scripts order) (below scripts order))

-- an order has as many entries as there are events
entries-sum : (n : ℕ) (back : List ℕ) → AllByRecursion (λ entry. entry < n) back
    → length back ≡ sum_below (λ thread. times thread back) n
entries-sum n [] all = sym (sum-none n)
entries-sum n (entry ∷ back) all =
    let rest = entries-sum n back all.1 in
    let whole = sum-add (λ (thread : ℕ). cond (entry == thread) 1 0) (λ (thread : ℕ). times thread back) n in
    let one = sum-one entry 1 n all.0 in
    omega (arith, rest, whole, one)

entries-below : (scripts : List (List Turn)) (order : List ℕ)
    → ((thread : ℕ) → times thread order ≤ length (events_at scripts thread))
    → AllByRecursion (λ entry. entry < length scripts) order
entries-below scripts [] few = tt
entries-below scripts (entry ∷ order) few = (
  here (entry == entry) refl (few entry) (cases_lt entry (length scripts)),
  entries-below scripts order (λ thread. omega (arith, few thread)),
)
  where
    here : (b : Bool) → (entry == entry) ≡ b → cond b 1 0 + times entry order ≤ length (events_at scripts entry)
        → (entry < length scripts) ⊎ (length scripts ≤ entry) → entry < length scripts
    here true p few (inl less) = less
    here true p few (inr past) = absurd (omega (arith, few, none-at scripts entry past))
    here false p few side = absurd (grind (arith, nat_tests, p))

scripts-sum : (scripts : List (List Turn))
    → sum_below (λ thread. length (events_at scripts thread)) (length scripts) ≡ event_count scripts
scripts-sum [] = refl
scripts-sum (script ∷ scripts) =
    let whole : event_count (script ∷ scripts) ≡ length (events_of script) + event_count scripts =
    sum_by-cons (λ (s : List Turn). length (events_of s)) script scripts in
    sum-first (λ (thread : ℕ). length (events_at (script ∷ scripts) thread)) (length scripts)
    ∙ ap (λ (n : ℕ). length (events_of script) + n) (scripts-sum scripts) ∙ sym whole

pub order-length : (scripts : List (List Turn)) (order : List ℕ) → IsInterleaving scripts order
    → length order ≡ event_count scripts
order-length scripts order is =
    entries-sum (length scripts) order (entries-below scripts order is.under.at_most)
    ∙ sum-same (λ (thread : ℕ). times thread order) (λ (thread : ℕ). length (events_at scripts thread)) (length scripts)
    is.exactly
    ∙ scripts-sum scripts

-- and an order under scripts no more
pub order-within : (scripts : List (List Turn)) (order : List ℕ)
    → ((thread : ℕ) → times thread order ≤ length (events_at scripts thread)) → length order ≤ event_count scripts
order-within scripts order few =
    let less =
    sum-less (λ (thread : ℕ). times thread order) (λ (thread : ℕ). length (events_at scripts thread)) (length scripts)
    few in
    omega (arith, entries-sum (length scripts) order (entries-below scripts order few), less, scripts-sum scripts)
