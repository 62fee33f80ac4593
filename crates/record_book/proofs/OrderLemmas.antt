-- Orders with a turn more, and what their entries mean.
use Rattle.std.proofs.Common.{◌≡◌, ◌≢◌, ℕ, zero, suc, ◌+◌, ◌<◌, ◌≤◌, ◌==◌, Bool, true, false, cond, List, [], ◌∷◌, ◌++◌}
use Rattle.std.proofs.Common.{length, take, drop, reverse, Option, None, Some, refl, sym, ap, ◌∙◌, subst, arith}
use Rattle.std.proofs.Common.{add-one, append_assoc, append-nil, length-append}
use Rattle.std.specs.Prelude.{nat_lt, slice_get}
use Rattle.std.proofs.lemmas.Bool.Decides.{nat_tests}
use Rattle.std.proofs.lemmas.List.{reverse-append, take-append-drop, take_all}
use Rattle.std.proofs.lemmas.Grind.{flat_map-append}
use Rattle.std.proofs.lemmas.Option.{get_or_from_slice_get, slice_get_past, slice_get_within}
use Rattle.std.proofs.Math.Seq.{take-suc}
use Rattle.record_scripts.specs.Events.{Event, allocation, events_of, events_of_turn}
use Rattle.record_scripts.specs.Turns.{Turn, allocates, frees, reallocates, script_at}
use Rattle.record_book.specs.Actions.{Action, actions, actions_back, events_at, times, with_event}
use Rattle.record_book.specs.BookState.{HasStepped, entries_of, stepped, turn_entries}
use Rattle.record_book.specs.Orders.{ArePaired, awaited}
use Rattle.record_book.specs.TraceState.{with_turn}

pub times-append : (thread : ℕ) (xs ys : List ℕ) → times thread (xs ++ ys) ≡ times thread xs + times thread ys
times-append thread [] ys = omega arith
times-append thread (x ∷ xs) ys = omega (arith, times-append thread xs ys)

pub times-reverse : (thread : ℕ) (xs : List ℕ) → times thread (reverse xs) ≡ times thread xs
times-reverse thread [] = refl
times-reverse thread (x ∷ xs) =
    ap (times thread) (reverse-append (x ∷ []) xs) ∙ times-append thread (reverse xs) (x ∷ [])
    ∙ omega (arith, times-reverse thread xs)

pub times-within : (thread : ℕ) (xs : List ℕ) → times thread xs ≤ length xs
times-within thread [] = omega arith
times-within thread (x ∷ xs) = by (times-within thread xs) (x == thread)
  where
    by : times thread xs ≤ length xs → (b : Bool) → cond b 1 0 + times thread xs ≤ length (x ∷ xs)
    by rest true = omega (arith, rest)
    by rest false = omega (arith, rest)

-- a thread in its own entries, and in another's
pub times-own : (thread : ℕ) (turn : Turn) → times thread (entries_of thread turn) ≡ length (events_of_turn turn)
times-own thread turn = by (thread == thread) refl turn
  where
    by : (b : Bool) → (thread == thread) ≡ b → (turn : Turn)
        → times thread (entries_of thread turn) ≡ length (events_of_turn turn)
    by true p (allocates id size ips) = ap (λ (x : Bool). cond x 1 0 + 0) p
    by true p (frees id) = ap (λ (x : Bool). cond x 1 0 + 0) p
    by true p (reallocates id size ips) = ap (λ (x : Bool). cond x 1 0 + (cond x 1 0 + 0)) p
    by false p turn = absurd (grind (arith, nat_tests, p))

pub times-other : (thread other : ℕ) (turn : Turn) → thread ≢ other → times other (entries_of thread turn) ≡ 0
times-other thread other turn apart = by (thread == other) refl turn
  where
    by : (b : Bool) → (thread == other) ≡ b → (turn : Turn) → times other (entries_of thread turn) ≡ 0
    by true p turn = absurd (apart (grind (arith, nat_tests, p)))
    by false p (allocates id size ips) = ap (λ (x : Bool). cond x 1 0 + 0) p
    by false p (frees id) = ap (λ (x : Bool). cond x 1 0 + 0) p
    by false p (reallocates id size ips) = ap (λ (x : Bool). cond x 1 0 + (cond x 1 0 + 0)) p

pub entries-length : (thread : ℕ) (turn : Turn) → length (entries_of thread turn) ≡ length (events_of_turn turn)
entries-length thread (allocates id size ips) = refl
entries-length thread (frees id) = refl
entries-length thread (reallocates id size ips) = refl

pub some_events : (turn : Turn) → 1 ≤ length (events_of_turn turn)
some_events (allocates id size ips) = omega arith
some_events (frees id) = omega arith
some_events (reallocates id size ips) = omega arith

-- the events before a turn, and those with it
pub events-more : (script : List Turn) (k : ℕ) (turn : Turn) → slice_get script k ≡ Some turn
    → events_of (take (k + 1) script) ≡ events_of (take k script) ++ events_of_turn turn
events-more script k turn at =
    ap (λ (n : ℕ). events_of (take n script)) (add-one k)
    ∙ ap (λ (turns : List Turn). events_of turns) (take-suc script k turn (slice_get_within script k turn at))
    ∙ ap (λ (t : Turn). events_of (take k script ++ t ∷ [])) (get_or_from_slice_get script k turn turn at)
    ∙ flat_map-append events_of_turn (take k script) (turn ∷ [])
    ∙ ap (λ (events : List Event). events_of (take k script) ++ events) (append-nil (events_of_turn turn))

-- the events of a front of a script, and those behind it
pub events-split : (script : List Turn) (k : ℕ)
    → events_of script ≡ events_of (take k script) ++ events_of (drop k script)
events-split script k =
    ap (λ (turns : List Turn). events_of turns) (sym (take-append-drop k script))
    ∙ flat_map-append events_of_turn (take k script) (drop k script)

pub events-within : (script : List Turn) (k : ℕ) → length (events_of (take k script)) ≤ length (events_of script)
events-within script k =
    omega (
      arith,
      ap length (events-split script k),
      length-append (events_of (take k script)) (events_of (drop k script)),
    )

events-at-turn : (script : List Turn) (k : ℕ) (turn : Turn) → slice_get script k ≡ Some turn
    → events_of script ≡ events_of (take k script) ++ (events_of_turn turn ++ events_of (drop (k + 1) script))
events-at-turn script k turn at =
    events-split script (k + 1)
    ∙ ap (λ (events : List Event). events ++ events_of (drop (k + 1) script)) (events-more script k turn at)
    ∙ append_assoc (events_of (take k script)) (events_of_turn turn) (events_of (drop (k + 1) script))

get-behind : (xs ys : List Event) (n k : ℕ) → n ≡ length xs + k → slice_get (xs ++ ys) n ≡ slice_get ys k
get-behind [] ys n k is = ap (λ (m : ℕ). slice_get ys m) (omega (arith, is))
get-behind (x ∷ xs) ys zero k is = absurd (omega (arith, is))
get-behind (x ∷ xs) ys (suc n) k is = get-behind xs ys n k (omega (arith, is))

-- the events of a turn stand behind those before it
pub event-at : (script : List Turn) (k : ℕ) (turn : Turn) (n j : ℕ) → slice_get script k ≡ Some turn
    → n ≡ length (events_of (take k script)) + j
    → slice_get (events_of script) n ≡ slice_get (events_of_turn turn ++ events_of (drop (k + 1) script)) j
event-at script k turn n j at is =
    ap (λ (events : List Event). slice_get events n) (events-at-turn script k turn at)
    ∙ get-behind (events_of (take k script)) (events_of_turn turn ++ events_of (drop (k + 1) script)) n j is

pub actions-push : (scripts : List (List Turn)) (order : List ℕ) (thread : ℕ)
    → actions scripts (order ++ thread ∷ [])
    ≡ with_event thread (slice_get (events_at scripts thread) (times thread (reverse order))) (actions scripts order)
unfolding actions
actions-push scripts order thread =
    ap (λ (back : List ℕ). actions_back scripts back) (reverse-append order (thread ∷ []))

pub actions-none : (scripts : List (List Turn)) → actions scripts [] ≡ []
unfolding actions
actions-none scripts = refl

-- what an order with a turn more means
pub actions-turn : (scripts : List (List Turn)) (order : List ℕ) (thread k : ℕ) (turn : Turn)
    → slice_get (script_at scripts thread) k ≡ Some turn
    → times thread order ≡ length (events_of (take k (script_at scripts thread)))
    → actions scripts (order ++ entries_of thread turn) ≡ with_turn thread turn (actions scripts order)
actions-turn scripts order thread k turn at taken = by turn at
  where
    count : (entries : List ℕ) (j : ℕ) → times thread entries ≡ times thread order + j
        → times thread (reverse entries) ≡ length (events_of (take k (script_at scripts thread))) + j
    count entries j more = omega (arith, times-reverse thread entries, more, taken)

    first : (turn : Turn) → slice_get (script_at scripts thread) k ≡ Some turn → actions scripts (order ++ thread ∷ [])
        ≡ with_event thread (slice_get (events_of_turn turn ++ events_of (drop (k + 1) (script_at scripts thread))) 0)
        (actions scripts order)
    first turn at =
        actions-push scripts order thread
        ∙ ap (λ (event : Option Event). with_event thread event (actions scripts order))
        (event-at (script_at scripts thread) k turn (times thread (reverse order)) 0 at (count order 0 (omega arith)))

    once : times thread (order ++ thread ∷ []) ≡ times thread order + 1
    once = times-append thread order (thread ∷ []) ∙ ap (λ (n : ℕ). times thread order + n) (times-own thread (frees 0))

    by : (turn : Turn) → slice_get (script_at scripts thread) k ≡ Some turn
        → actions scripts (order ++ entries_of thread turn) ≡ with_turn thread turn (actions scripts order)
    by (allocates id size ips) at = first (allocates id size ips) at
    by (frees id) at = first (frees id) at
    by (reallocates id size ips) at =
        ap (λ (entries : List ℕ). actions scripts entries) (sym (append_assoc order (thread ∷ []) (thread ∷ [])))
        ∙ actions-push scripts (order ++ thread ∷ []) thread
        ∙ ap (λ (event : Option Event). with_event thread event (actions scripts (order ++ thread ∷ [])))
        (event-at (script_at scripts thread) k (reallocates id size ips) (times thread (reverse (order ++ thread ∷ [])))
        1 at (count (order ++ thread ∷ []) 1 once))
        ∙ ap (λ (before : List Action). with_event thread (Some (allocation id size ips)) before)
        (first (reallocates id size ips) at)

-- the order with the next turn
pub stepped-turn : (scripts : List (List Turn)) (order : List ℕ) (thread k : ℕ) (turn : Turn)
    → slice_get (script_at scripts thread) k ≡ Some turn
    → times thread order ≡ length (events_of (take k (script_at scripts thread)))
    → stepped scripts thread order ≡ order ++ entries_of thread turn
stepped-turn scripts order thread k turn at taken =
    ap (λ (event : Option Event). order ++ turn_entries thread event)
    (event-at (script_at scripts thread) k turn (times thread order) 0 at (omega (arith, taken)))
    ∙ by turn
  where
    by : (turn : Turn)
        → order
        ++ turn_entries thread (slice_get (events_of_turn turn ++ events_of (drop (k + 1) (script_at scripts thread)))
        0)
        ≡ order ++ entries_of thread turn
    by (allocates id size ips) = refl
    by (frees id) = refl
    by (reallocates id size ips) = refl

pub more-turn : (scripts : List (List Turn)) (order : List ℕ) (thread k : ℕ) (turn : Turn)
    → slice_get (script_at scripts thread) k ≡ Some turn
    → times thread order ≡ length (events_of (take k (script_at scripts thread)))
    → true ≡ nat_lt (times thread order) (length (events_at scripts thread))
more-turn scripts order thread k turn at taken =
    let script = script_at scripts thread in
    let more =
    ap length (events-more script k turn at) ∙ length-append (events_of (take k script)) (events_of_turn turn) in
    let below : times thread order < length (events_of script) =
    omega (arith, taken, more, some_events turn, events-within script (k + 1)) in
    grind (arith, nat_tests, below)

-- nothing is left of a script that is done
pub done-length : (script : List Turn) (k : ℕ) → slice_get script k ≡ None → length script ≤ k
done-length [] k none = omega arith
done-length (turn ∷ script) zero none = absurd (grind (arith, none))
done-length (turn ∷ script) (suc k) none = omega (arith, done-length script k none)

pub all-taken : (scripts : List (List Turn)) (order : List ℕ) (thread k : ℕ)
    → slice_get (script_at scripts thread) k ≡ None
    → times thread order ≡ length (events_of (take k (script_at scripts thread)))
    → times thread order ≡ length (events_at scripts thread)
all-taken scripts order thread k none taken =
    taken
    ∙ ap (λ (turns : List Turn). length (events_of turns))
    (take_all k (script_at scripts thread) (done-length (script_at scripts thread) k none))

pub stepped-done : (scripts : List (List Turn)) (order : List ℕ) (thread k : ℕ)
    → slice_get (script_at scripts thread) k ≡ None
    → times thread order ≡ length (events_of (take k (script_at scripts thread))) → stepped scripts thread order ≡ order
stepped-done scripts order thread k none taken =
    ap (λ (event : Option Event). order ++ turn_entries thread event)
    (slice_get_past (events_at scripts thread) (times thread order)
    (omega (arith, all-taken scripts order thread k none taken)))
    ∙ append-nil order

pub more-done : (scripts : List (List Turn)) (order : List ℕ) (thread k : ℕ)
    → slice_get (script_at scripts thread) k ≡ None
    → times thread order ≡ length (events_of (take k (script_at scripts thread)))
    → false ≡ nat_lt (times thread order) (length (events_at scripts thread))
more-done scripts order thread k none taken =
    let all = all-taken scripts order thread k none taken in grind (arith, nat_tests, all)

-- a turn parts no reallocation
pub paired-turn : (thread : ℕ) (turn : Turn) (before : List Action) → ArePaired before → awaited before ≡ None
    → ArePaired (with_turn thread turn before)
paired-turn thread (allocates id size ips) before paired closed = (rw closed tt, paired)
paired-turn thread (frees id) before paired closed = (rw closed tt, paired)
paired-turn thread (reallocates id size ips) before paired closed = (refl, (rw closed tt, paired))

pub closed-turn : (thread : ℕ) (turn : Turn) (before : List Action) → awaited (with_turn thread turn before) ≡ None
closed-turn thread (allocates id size ips) before = refl
closed-turn thread (frees id) before = refl
closed-turn thread (reallocates id size ips) before = refl

-- one turn more of a thread
pub stepped-more : (scripts : List (List Turn)) (thread count : ℕ) (old mid new : List ℕ)
    → HasStepped scripts thread count old mid → true ≡ nat_lt (times thread mid) (length (events_at scripts thread))
    → new ≡ stepped scripts thread mid → HasStepped scripts thread (count + 1) old new
stepped-more scripts thread count old mid new before more is =
    let below : times thread mid < length (events_at scripts thread) = grind (arith, nat_tests, more) in
    subst (λ (n : ℕ). HasStepped scripts thread n old new) (sym (add-one count)) (mid, before, below, is)
