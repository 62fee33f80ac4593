-- What an order under playable scripts means are actions that are played.
use Rattle.std.proofs.Common.{◌≡◌, ℕ, zero, suc, ◌^◌, ◌≤◌, ◌==◌, ◌&&◌, Bool, true, false, cond, List, [], ◌∷◌, ◌++◌}
use Rattle.std.proofs.Common.{length, map, take, reverse, Option, None, Some, refl, sym, ap, ap₂, ◌∙◌, subst, arith}
use Rattle.std.proofs.Common.{true≢false, append_assoc, append-nil}
use Rattle.std.specs.Prelude.{slice_get, is_some}
use Rattle.std.specs.List.{AllByRecursion}
use Rattle.std.proofs.lemmas.Bool.Decides.{nat_tests}
use Rattle.std.proofs.lemmas.List.{reverse-append, map-append}
use Rattle.std.proofs.lemmas.Option.{same_Some}
use Rattle.ht_lines.specs.Written.{AreWords}
use Rattle.record_scripts.specs.Events.{Event, allocation, free, events_of, events_of_turn}
use Rattle.record_scripts.specs.Playable.{AreInTurn, IsInTurn}
use Rattle.record_scripts.specs.Turns.{AreBounded, IsBounded, Turn, allocates, frees, reallocates, is_live_after}
use Rattle.record_scripts.specs.Turns.{script_at}
use Rattle.record_book.specs.Actions.{Action, actions, actions_back, events_at, times, with_event}
use Rattle.record_book.specs.Figures.{Held, has_id, held_after, with_events}
use Rattle.record_book.specs.TallyState.{size_in}
use Rattle.record_book.proofs.Laws.{held-thread, held_by, same, size-without, thread-back, times-reverse}
use Rattle.sound_recordings.proofs.Played.{ArePlayed, Plays}

-- for events of one thread listed from the last to the first: the size of the live block of an ID
abbrev sized : List Event → ℕ → Option ℕ
sized [] id = None
sized (allocation other size ips ∷ before) id = cond (other == id) (Some size) (sized before id)
sized (free other rejoined ∷ before) id = cond (other == id) None (sized before id)

-- an event may stand behind others of its thread
abbrev May : List Event → Event → Type 0
May before (allocation id size ips) = (sized before id ≡ None) × (size ≤ 2 ^ 32) × (length ips ≤ 256) × AreWords ips
May before (free id rejoined) = (size : ℕ) × (sized before id ≡ Some size)

abbrev AllMay : List Event → Type 0
AllMay [] = Unit {0}
AllMay (event ∷ before) = May before event × AllMay before

-- the events of turns, both listed from the last to the first
abbrev events_back : List Turn → List Event
events_back [] = []
events_back (allocates id size ips ∷ before) = allocation id size ips ∷ events_back before
events_back (frees id ∷ before) = free id false ∷ events_back before
events_back (reallocates id size ips ∷ before) = allocation id size ips ∷ free id true ∷ events_back before

back-append : (xs ys : List Turn) → events_back (xs ++ ys) ≡ events_back xs ++ events_back ys
back-append [] ys = refl
back-append (allocates id size ips ∷ xs) ys =
    ap (λ (rest : List Event). allocation id size ips ∷ rest) (back-append xs ys)
back-append (frees id ∷ xs) ys = ap (λ (rest : List Event). free id false ∷ rest) (back-append xs ys)
back-append (reallocates id size ips ∷ xs) ys =
    ap (λ (rest : List Event). allocation id size ips ∷ free id true ∷ rest) (back-append xs ys)

one-back : (turn : Turn) → reverse (events_of_turn turn) ≡ events_back (turn ∷ [])
one-back (allocates id size ips) = refl
one-back (frees id) = refl
one-back (reallocates id size ips) = refl

script-back : (script : List Turn) → reverse (events_of script) ≡ events_back (reverse script)
script-back [] = refl
script-back (turn ∷ script) =
    reverse-append (events_of_turn turn) (events_of script)
    ∙ ap₂ (λ (x y : List Event). x ++ y) (script-back script) (one-back turn)
    ∙ sym (ap events_back (reverse-append (turn ∷ []) script) ∙ back-append (reverse script) (turn ∷ []))

-- a block is live after turns where it has a size after their events
live-sized : (turns : List Turn) (id : ℕ) → is_live_after turns id ≡ is_some (sized (events_back turns) id)
live-sized [] id = refl
live-sized (allocates other size ips ∷ before) id = by (other == id) (live-sized before id)
  where
    by : (b : Bool) → is_live_after before id ≡ is_some (sized (events_back before) id)
        → cond b true (is_live_after before id) ≡ is_some (cond b (Some size) (sized (events_back before) id))
    by true rest = refl
    by false rest = rest
live-sized (frees other ∷ before) id = by (other == id) (live-sized before id)
  where
    by : (b : Bool) → is_live_after before id ≡ is_some (sized (events_back before) id)
        → cond b false (is_live_after before id) ≡ is_some (cond b None (sized (events_back before) id))
    by true rest = refl
    by false rest = rest
live-sized (reallocates other size ips ∷ before) id = by (other == id) (live-sized before id)
  where
    by : (b : Bool) → is_live_after before id ≡ is_some (sized (events_back before) id)
        → cond b true (is_live_after before id)
        ≡ is_some (cond b (Some size) (cond b None (sized (events_back before) id)))
    by true rest = refl
    by false rest = rest

no-size : (o : Option ℕ) → is_some o ≡ false → o ≡ None
no-size None p = refl
no-size (Some size) p = absurd (true≢false p)

a-size : (o : Option ℕ) → is_some o ≡ true → (size : ℕ) × (o ≡ Some size)
a-size None p = absurd (true≢false (sym p))
a-size (Some size) p = (size, refl)

own-id : (id : ℕ) (x y : Option ℕ) → cond (id == id) x y ≡ x
own-id id x y = by (id == id) (grind (arith, nat_tests))
  where
    by : (b : Bool) → b ≡ true → cond b x y ≡ x
    by true p = refl
    by false p = absurd (true≢false (sym p))

-- the events of turns that follow each other
may-turns : (turns : List Turn) → AreInTurn turns → AllByRecursion IsBounded turns → AllMay (events_back turns)
may-turns [] are bounded = tt
may-turns (allocates id size ips ∷ before) are bounded = (
  (
    no-size (sized (events_back before) id) (sym (live-sized before id) ∙ are.0.0),
    bounded.0.0,
    bounded.0.1,
    are.0.1,
  ),
  may-turns before are.1 bounded.1,
)
may-turns (frees id ∷ before) are bounded =
    (a-size (sized (events_back before) id) (sym (live-sized before id) ∙ are.0), may-turns before are.1 bounded.1)
may-turns (reallocates id size ips ∷ before) are bounded = (
  (own-id id None (sized (events_back before) id), bounded.0.0, bounded.0.1, are.0.1),
  (a-size (sized (events_back before) id) (sym (live-sized before id) ∙ are.0.0), may-turns before are.1 bounded.1),
)

all-reverse : (P : Turn → Type 0) (turns : List Turn) → AllByRecursion P turns → AllByRecursion P (reverse turns)
all-reverse P [] all = tt
all-reverse P (turn ∷ turns) all =
    subst (AllByRecursion P) (sym (reverse-append (turn ∷ []) turns)) (push (reverse turns) (all-reverse P turns all.1))
  where
    push : (xs : List Turn) → AllByRecursion P xs → AllByRecursion P (xs ++ turn ∷ [])
    push [] more = (all.0, tt)
    push (x ∷ xs) more = (more.0, push xs more.1)

-- the events of a script
may-script : (script : List Turn) → IsInTurn script → AllByRecursion IsBounded script
    → AllMay (reverse (events_of script))
may-script script are bounded =
    subst AllMay (sym (script-back script)) (may-turns (reverse script) are (all-reverse IsBounded script bounded))

-- an event behind those before it
may-behind : (xs ys : List Event) → AllMay (xs ++ ys) → AllMay ys
may-behind [] ys all = all
may-behind (x ∷ xs) ys all = may-behind xs ys all.1

may-front : (front events : List Event) (n : ℕ) (event : Event) → AllMay (reverse events ++ reverse front)
    → slice_get events n ≡ Some event → May (reverse (take n events) ++ reverse front) event
may-front front [] n event all at = absurd (grind (arith, at))
may-front front (x ∷ events) zero event all at =
    let here : AllMay (reverse events ++ (x ∷ reverse front)) =
    subst AllMay
    (ap (λ (l : List Event). l ++ reverse front) (reverse-append (x ∷ []) events)
    ∙ append_assoc (reverse events) (x ∷ []) (reverse front))
    all in
    subst (λ (e : Event). May (reverse front) e) (same_Some x event at)
    (may-behind (reverse events) (x ∷ reverse front) here).0
may-front front (x ∷ events) (suc n) event all at =
    let grown : reverse (front ++ x ∷ []) ≡ x ∷ reverse front = reverse-append front (x ∷ []) in
    let moved : (l : List Event) → reverse (x ∷ l) ++ reverse front ≡ reverse l ++ reverse (front ++ x ∷ []) =
    λ (l : List Event). ap (λ (r : List Event). r ++ reverse front) (reverse-append (x ∷ []) l)
    ∙ append_assoc (reverse l) (x ∷ []) (reverse front) ∙ ap (λ (r : List Event). reverse l ++ r) (sym grown) in
    subst (λ (before : List Event). May before event) (sym (moved (take n events)))
    (may-front (front ++ x ∷ []) events n event (subst AllMay (moved events) all) at)

may-at : (events : List Event) (n : ℕ) (event : Event) → AllMay (reverse events) → slice_get events n ≡ Some event
    → May (reverse (take n events)) event
may-at events n event all at =
    subst (λ (before : List Event). May before event) (append-nil (reverse (take n events)))
    (may-front [] events n event (subst AllMay (sym (append-nil (reverse events))) all) at)

-- what a thread does alone, listed from the last to the first
abbrev act : ℕ → Event → Action
act thread event = record { thread = thread; event = event }

with-back : (thread : ℕ) (events : List Event) (before : List Action)
    → with_events thread events before ≡ map (act thread) (reverse events) ++ before
with-back thread [] before = refl
with-back thread (event ∷ events) before =
    with-back thread events (act thread event ∷ before)
    ∙ sym (append_assoc (map (act thread) (reverse events)) (act thread event ∷ []) before)
    ∙ ap (λ (front : List Action). front ++ before)
    (sym (ap (map (act thread)) (reverse-append (event ∷ []) events)
    ∙ map-append (act thread) (reverse events) (event ∷ [])))

-- the sizes of its blocks
same-thread : (thread other id : ℕ) → same thread other thread id ≡ (other == id)
same-thread thread other id = by (thread == thread) (grind (arith, nat_tests))
  where
    by : (b : Bool) → b ≡ true → (b && (other == id)) ≡ (other == id)
    by true p = refl
    by false p = absurd (true≢false (sym p))

size-back : (thread : ℕ) (back : List Event) (id : ℕ)
    → size_in (held_after (map (act thread) back)) thread id ≡ sized back id
size-back thread [] id = refl
size-back thread (allocation other size ips ∷ before) id =
    let blocks = held_after (map (act thread) before) in
    ap (λ (o : Option ℕ). cond (same thread other thread id) (Some size) o) (size-without thread other blocks thread id)
    ∙ ap₂ (λ (b : Bool) (o : Option ℕ). cond b (Some size) (cond b None o)) (same-thread thread other id)
    (size-back thread before id)
    ∙ by (other == id)
  where
    by : (b : Bool) → cond b (Some size) (cond b None (sized before id)) ≡ cond b (Some size) (sized before id)
    by true = refl
    by false = refl
size-back thread (free other rejoined ∷ before) id =
    size-without thread other (held_after (map (act thread) before)) thread id
    ∙ ap₂ (λ (b : Bool) (o : Option ℕ). cond b None o) (same-thread thread other id) (size-back thread before id)

-- the blocks of a thread among all
size-by : (thread : ℕ) (blocks : List Held) (id : ℕ)
    → size_in (held_by thread blocks) thread id ≡ size_in blocks thread id
size-by thread [] id = refl
size-by thread (block ∷ older) id = by (block.thread == thread) refl (size-by thread older id)
  where
    by : (b : Bool) → (block.thread == thread) ≡ b → size_in (held_by thread older) thread id ≡ size_in older thread id
        → size_in (cond b (block ∷ held_by thread older) (held_by thread older)) thread id
        ≡ cond (has_id thread id block) (Some block.size) (size_in older thread id)
    by true p rest = ap (λ (o : Option ℕ). cond (has_id thread id block) (Some block.size) o) rest
    by false p rest =
        rest ∙ sym (ap (λ (b : Bool). cond (b && (block.id == id)) (Some block.size) (size_in older thread id)) p)

-- an event of an order is played
plays-at : (scripts : List (List Turn)) (thread : ℕ) (back : List ℕ) (event : Event)
    → IsInTurn (script_at scripts thread) → AllByRecursion IsBounded (script_at scripts thread)
    → times thread back ≤ length (events_at scripts thread)
    → slice_get (events_at scripts thread) (times thread back) ≡ Some event
    → Plays (actions_back scripts back) thread event
plays-at scripts thread back event in_turn bounded few at =
    by event (may-at (events_at scripts thread) (times thread back) event
    (may-script (script_at scripts thread) in_turn bounded) at)
  where
    size-is : (id : ℕ)
        → size_in (held_after (actions_back scripts back)) thread id
        ≡ sized (reverse (take (times thread back) (events_at scripts thread))) id
    size-is id =
        sym (size-by thread (held_after (actions_back scripts back)) id)
        ∙ ap (λ (blocks : List Held). size_in blocks thread id) (sym (held-thread thread (actions_back scripts back)))
        ∙ ap (λ (acts : List Action). size_in (held_after acts) thread id)
        (thread-back scripts thread back few ∙ with-back thread (take (times thread back) (events_at scripts thread)) []
        ∙ append-nil (map (act thread) (reverse (take (times thread back) (events_at scripts thread)))))
        ∙ size-back thread (reverse (take (times thread back) (events_at scripts thread))) id

    by : (event : Event) → May (reverse (take (times thread back) (events_at scripts thread))) event
        → Plays (actions_back scripts back) thread event
    by (allocation id size ips) may = (size-is id ∙ may.0, may.1, may.2, may.3)
    by (free id rejoined) may = (may.0, size-is id ∙ may.1)

-- scripts by their threads
in-turn-at : (scripts : List (List Turn)) (thread : ℕ) → AllByRecursion IsInTurn scripts
    → IsInTurn (script_at scripts thread)
in-turn-at [] thread all = tt
in-turn-at (script ∷ scripts) zero all = all.0
in-turn-at (script ∷ scripts) (suc thread) all = in-turn-at scripts thread all.1

bounded-at : (scripts : List (List Turn)) (thread : ℕ) → AreBounded scripts
    → AllByRecursion IsBounded (script_at scripts thread)
bounded-at [] thread all = tt
bounded-at (script ∷ scripts) zero all = all.0
bounded-at (script ∷ scripts) (suc thread) all = bounded-at scripts thread all.1

played-back : (scripts : List (List Turn)) → AllByRecursion IsInTurn scripts → AreBounded scripts → (back : List ℕ)
    → ((thread : ℕ) → times thread back ≤ length (events_at scripts thread))
    → ArePlayed (actions_back scripts back)
played-back scripts in_turn bounded [] few = tt
played-back scripts in_turn bounded (entry ∷ back) few =
    by (slice_get (events_at scripts entry) (times entry back)) refl
    (played-back scripts in_turn bounded back (λ thread. omega (arith, few thread)))
  where
    by : (o : Option Event) → slice_get (events_at scripts entry) (times entry back) ≡ o
        → ArePlayed (actions_back scripts back) → ArePlayed (with_event entry o (actions_back scripts back))
    by None at rest = rest
    by (Some event) at rest = (
      plays-at scripts entry back event (in-turn-at scripts entry in_turn) (bounded-at scripts entry bounded)
          (omega (arith, few entry)) at,
      rest,
    )

pub are-played : (scripts : List (List Turn)) (order : List ℕ) → AllByRecursion IsInTurn scripts → AreBounded scripts
    → ((thread : ℕ) → times thread order ≤ length (events_at scripts thread)) → ArePlayed (actions scripts order)
unfolding actions
are-played scripts order in_turn bounded few =
    played-back scripts in_turn bounded (reverse order)
    (λ thread. omega (arith, few thread, times-reverse thread order))
