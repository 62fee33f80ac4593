-- Walks over an order, turn by turn, and over one script.
use Rattle.std.proofs.Common.{◌≡◌, ◌≢◌, ℕ, zero, suc, ◌+◌, ◌<◌, ◌≤◌, ◌==◌, ◌⊎◌, inl, inr, Bool, true, false, List, []}
use Rattle.std.proofs.Common.{◌∷◌, ◌++◌, length, take, drop, reverse, Option, None, Some, refl, sym, ap, ◌∙◌, subst}
use Rattle.std.proofs.Common.{arith, add-one, append_assoc, append-nil, length-append}
use Rattle.std.specs.Prelude.{slice_get, slice_index_or, slice_set}
use Rattle.std.proofs.lemmas.Bool.{cases_lt}
use Rattle.std.proofs.lemmas.Bool.Decides.{nat_tests}
use Rattle.std.proofs.lemmas.List.{length-take, take-append-drop, take_all}
use Rattle.std.proofs.lemmas.Option.{get_or_from_slice_get, slice_get_within}
use Rattle.std.proofs.Math.Seq.{take-suc}
use Rattle.record_scripts.specs.Events.{Event, free, events_of, events_of_turn}
use Rattle.record_scripts.specs.Turns.{Turn, allocates, frees, reallocates, script_at}
use Rattle.record_book.specs.Actions.{Action, actions, events_at, times, with_event}
use Rattle.record_book.specs.BookState.{entries_of}
use Rattle.record_book.specs.StreamState.{done_at}
use Rattle.record_book.specs.Figures.{alone, with_events}
use Rattle.record_book.specs.Orders.{ArePaired, IsUnder, awaited}
use Rattle.record_book.specs.TraceState.{with_turn}
use Rattle.record_book.proofs.DoneLemmas.{done-here, done-other}
use Rattle.record_book.proofs.FinishLemmas.{none-at}
use Rattle.record_book.proofs.OrderLemmas.{actions-push, actions-turn, all-taken, done-length, event-at, events-more}
use Rattle.record_book.proofs.OrderLemmas.{times-append, times-other, times-own, times-reverse}

-- an order is that of so many turns of each thread
abbrev pub AreTaken : List (List Turn) → List ℕ → List ℕ → Type 0
AreTaken scripts order done =
    (thread : ℕ) → times thread order ≡ length (events_of (take (done_at done thread) (script_at scripts thread)))

pub taken-none : (scripts : List (List Turn)) (done : List ℕ) → ((thread : ℕ) → done_at done thread ≡ 0)
    → AreTaken scripts [] done
taken-none scripts done none =
    λ thread. ap (λ (k : ℕ). length (events_of (take k (script_at scripts thread)))) (sym (none thread))

-- one turn more
pub taken-next : (scripts : List (List Turn)) (order done : List ℕ) (thread : ℕ) (turn : Turn)
    → AreTaken scripts order done → thread < length done
    → slice_get (script_at scripts thread) (done_at done thread) ≡ Some turn
    → AreTaken scripts (order ++ entries_of thread turn) (slice_set done thread (done_at done thread + 1))
taken-next scripts order done thread turn taken within at = λ other. by other (thread == other) refl
  where
    by : (other : ℕ) → (b : Bool) → (thread == other) ≡ b
        → times other (order ++ entries_of thread turn)
        ≡ length
        (events_of (take (done_at (slice_set done thread (done_at done thread + 1)) other) (script_at scripts other)))
    by other true p =
        let script = script_at scripts thread in
        let same : thread ≡ other = grind (arith, nat_tests, p) in
        let more =
        ap length (events-more script (done_at done thread) turn at)
        ∙ length-append (events_of (take (done_at done thread) script)) (events_of_turn turn) in
        let P : ℕ → Type 0 =
        λ k. times k (order ++ entries_of thread turn)
        ≡ length
        (events_of (take (done_at (slice_set done thread (done_at done thread + 1)) k) (script_at scripts k))) in
        let counted : times thread (order ++ entries_of thread turn)
        ≡ length (events_of (take (done_at done thread + 1) script)) =
        omega (arith, times-append thread order (entries_of thread turn), times-own thread turn, taken thread, more) in
        subst P same
        (counted
        ∙ ap (λ (n : ℕ). length (events_of (take n script)))
        (sym (done-here done thread (done_at done thread + 1) within)))
    by other false p =
        let apart : thread ≢ other = λ (same : thread ≡ other). absurd (grind (arith, nat_tests, p, same)) in
        let counted : times other (order ++ entries_of thread turn) ≡ times other order =
        omega (arith, times-append other order (entries_of thread turn), times-other thread other turn apart) in
        counted ∙ taken other
        ∙ ap (λ (n : ℕ). length (events_of (take n (script_at scripts other))))
        (sym (done-other done thread other (done_at done thread + 1) apart))

none≢some : (n : ℕ) → None ≢ Some n
none≢some n same = absurd (grind (arith, nat_tests, same))

past : {X : Type 0} (xs : List X) (k : ℕ) → slice_get xs k ≡ None → length xs ≤ k
past [] k none = omega arith
past (x ∷ xs) zero none = absurd (grind (arith, none))
past (x ∷ xs) (suc k) none = omega (arith, past xs k none)

-- an order up to an entry, and with it
take-entry : (order : List ℕ) (entry thread : ℕ) → slice_get order entry ≡ Some thread
    → take (entry + 1) order ≡ take entry order ++ thread ∷ []
take-entry order entry thread at =
    ap (λ (n : ℕ). take n order) (add-one entry) ∙ take-suc order entry thread (slice_get_within order entry thread at)
    ∙ ap (λ (t : ℕ). take entry order ++ t ∷ []) (get_or_from_slice_get order entry thread thread at)

times-front : (thread : ℕ) (order : List ℕ) (entry : ℕ) → times thread (take entry order) ≤ times thread order
times-front thread [] entry = omega (arith, ap (times thread) (take_all entry [] (omega arith)))
times-front thread (x ∷ order) zero = omega arith
times-front thread (x ∷ order) (suc entry) = omega (arith, times-front thread order entry)

once : (thread : ℕ) → times thread (thread ∷ []) ≡ 1
once thread = times-own thread (frees 0)

-- an entry is one of its thread more
pub times-entry : (order : List ℕ) (entry thread : ℕ) → slice_get order entry ≡ Some thread
    → times thread (take entry order) + 1 ≤ times thread order
times-entry order entry thread at =
    let more : times thread (take (entry + 1) order) ≡ times thread (take entry order) + 1 =
    ap (times thread) (take-entry order entry thread at) ∙ times-append thread (take entry order) (thread ∷ [])
    ∙ ap (λ (n : ℕ). times thread (take entry order) + n) (once thread) in
    omega (arith, more, times-front thread order (entry + 1))

-- its script is there, and isn't done before it
pub entry-there : (scripts : List (List Turn)) (order : List ℕ) (entry thread : ℕ) → IsUnder scripts order
    → slice_get order entry ≡ Some thread → thread < length scripts
entry-there scripts order entry thread under at = by (cases_lt thread (length scripts))
  where
    by : (thread < length scripts) ⊎ (length scripts ≤ thread) → thread < length scripts
    by (inl there) = there
    by (inr past) =
        absurd (omega (arith, times-entry order entry thread at, under.at_most thread, none-at scripts thread past))

pub turn-there : (scripts : List (List Turn)) (order done : List ℕ) (entry thread : ℕ) → IsUnder scripts order
    → AreTaken scripts (take entry order) done → slice_get order entry ≡ Some thread
    → slice_get (script_at scripts thread) (done_at done thread) ≢ None
turn-there scripts order done entry thread under taken at = λ none.
    let all = all-taken scripts (take entry order) thread (done_at done thread) none (taken thread) in
    absurd (omega (arith, all, times-entry order entry thread at, under.at_most thread))

-- fronts of orders part no reallocation but for one at their ends
paired-front : (scripts : List (List Turn)) (front more : List ℕ) → ArePaired (actions scripts (front ++ more))
    → ArePaired (actions scripts front)
paired-front scripts front [] paired =
    subst (λ (order : List ℕ). ArePaired (actions scripts order)) (append-nil front) paired
paired-front scripts front (thread ∷ more) paired =
    let longer =
    paired-front scripts (front ++ thread ∷ []) more
    (subst (λ (order : List ℕ). ArePaired (actions scripts order)) (sym (append_assoc front (thread ∷ []) more))
    paired) in
    by (slice_get (events_at scripts thread) (times thread (reverse front)))
    (subst ArePaired (actions-push scripts front thread) longer)
  where
    by : (event : Option Event) → ArePaired (with_event thread event (actions scripts front))
        → ArePaired (actions scripts front)
    by None paired = paired
    by (Some event) paired = paired.1

-- the entry behind the first one of a reallocation is of the same thread
half : (scripts : List (List Turn)) (order : List ℕ) (thread k id size : ℕ) (ips : List ℕ)
    → slice_get (script_at scripts thread) k ≡ Some (reallocates id size ips)
    → times thread order ≡ length (events_of (take k (script_at scripts thread)))
    → actions scripts (order ++ thread ∷ []) ≡ record { thread = thread; event = free id true } ∷ actions scripts order
half scripts order thread k id size ips at taken =
    actions-push scripts order thread
    ∙ ap (λ (event : Option Event). with_event thread event (actions scripts order))
    (event-at (script_at scripts thread) k (reallocates id size ips) (times thread (reverse order)) 0 at
    (omega (arith, times-reverse thread order, taken)))

second : (scripts : List (List Turn)) (order : List ℕ) (entry thread next k id size : ℕ) (ips : List ℕ)
    → IsUnder scripts order → slice_get order entry ≡ Some thread → slice_get order (entry + 1) ≡ Some next
    → slice_get (script_at scripts thread) k ≡ Some (reallocates id size ips)
    → times thread (take entry order) ≡ length (events_of (take k (script_at scripts thread))) → next ≡ thread
second scripts order entry thread next k id size ips under at behind turn taken =
    let both : take (entry + 1 + 1) order ≡ (take entry order ++ thread ∷ []) ++ next ∷ [] =
    take-entry order (entry + 1) next behind
    ∙ ap (λ (front : List ℕ). front ++ next ∷ []) (take-entry order entry thread at) in
    let paired =
    paired-front scripts (take (entry + 1 + 1) order) (drop (entry + 1 + 1) order)
    (subst (λ (whole : List ℕ). ArePaired (actions scripts whole)) (sym (take-append-drop (entry + 1 + 1) order))
    under.paired) in
    let here =
    subst ArePaired
    (ap (λ (front : List ℕ). actions scripts front) both
    ∙ actions-push scripts (take entry order ++ thread ∷ []) next
    ∙ ap (λ (before : List Action). with_event next
    (slice_get (events_at scripts next) (times next (reverse (take entry order ++ thread ∷ [])))) before) (half
    scripts (take entry order) thread k id size ips turn taken))
    paired in
    let few : times next (reverse (take entry order ++ thread ∷ [])) < length (events_at scripts next) =
    omega (
      arith,
      times-reverse next (take entry order ++ thread ∷ []),
      ap (times next) (take-entry order entry thread at),
      times-entry order (entry + 1) next behind,
      under.at_most next,
    ) in
    by (slice_get (events_at scripts next) (times next (reverse (take entry order ++ thread ∷ [])))) refl few here
  where
    by : (event : Option Event)
        → slice_get (events_at scripts next) (times next (reverse (take entry order ++ thread ∷ []))) ≡ event
        → times next (reverse (take entry order ++ thread ∷ [])) < length (events_at scripts next)
        → ArePaired
        (with_event next event (record { thread = thread; event = free id true } ∷ actions scripts (take entry order)))
        → next ≡ thread
    by None none few paired =
        absurd (omega
        (arith, few, past (events_at scripts next) (times next (reverse (take entry order ++ thread ∷ []))) none))
    by (Some event) is few paired = paired.0

-- the entries of a turn stand in the order where it begins
pub turn-entries : (scripts : List (List Turn)) (order : List ℕ) (entry thread k : ℕ) (turn : Turn)
    → IsUnder scripts order → slice_get order entry ≡ Some thread → slice_get (script_at scripts thread) k ≡ Some turn
    → times thread (take entry order) ≡ length (events_of (take k (script_at scripts thread)))
    → take (entry + length (entries_of thread turn)) order ≡ take entry order ++ entries_of thread turn
turn-entries scripts order entry thread k (allocates id size ips) under at turn taken = take-entry order entry thread at
turn-entries scripts order entry thread k (frees id) under at turn taken = take-entry order entry thread at
turn-entries scripts order entry thread k (reallocates id size ips) under at turn taken =
    by (slice_get order (entry + 1)) refl
  where
    first : take (entry + 1) order ≡ take entry order ++ thread ∷ []
    first = take-entry order entry thread at

    by : (found : Option ℕ) → slice_get order (entry + 1) ≡ found
        → take (entry + 2) order ≡ take entry order ++ (thread ∷ thread ∷ [])
    by None none =
        let whole : order ≡ take entry order ++ thread ∷ [] =
        sym (take_all (entry + 1) order (past order (entry + 1) none)) ∙ first in
        let left : awaited (actions scripts order) ≡ Some thread =
        ap (λ (front : List ℕ). awaited (actions scripts front)) whole
        ∙ ap awaited (half scripts (take entry order) thread k id size ips turn taken) in
        absurd (none≢some thread (sym under.closed ∙ left))
    by (Some next) behind =
        let same : next ≡ thread = second scripts order entry thread next k id size ips under at behind turn taken in
        ap (λ (n : ℕ). take n order) (omega arith) ∙ take-entry order (entry + 1) next behind
        ∙ ap (λ (t : ℕ). take (entry + 1) order ++ t ∷ []) same
        ∙ ap (λ (front : List ℕ). front ++ thread ∷ []) first
        ∙ append_assoc (take entry order) (thread ∷ []) (thread ∷ [])

-- what a thread does alone, with a turn more
pub with_events-append : (thread : ℕ) (xs ys : List Event) (before : List Action)
    → with_events thread (xs ++ ys) before ≡ with_events thread ys (with_events thread xs before)
with_events-append thread [] ys before = refl
with_events-append thread (x ∷ xs) ys before =
    with_events-append thread xs ys (record { thread = thread; event = x } ∷ before)

with_events-turn : (thread : ℕ) (turn : Turn) (before : List Action)
    → with_events thread (events_of_turn turn) before ≡ with_turn thread turn before
with_events-turn thread (allocates id size ips) before = refl
with_events-turn thread (frees id) before = refl
with_events-turn thread (reallocates id size ips) before = refl

pub alone-more : (script : List Turn) (thread k : ℕ) (turn : Turn) → slice_get script k ≡ Some turn
    → with_turn thread turn (with_events thread (events_of (take k script)) [])
    ≡ with_events thread (events_of (take (k + 1) script)) []
alone-more script thread k turn at =
    sym (ap (λ (events : List Event). with_events thread events []) (events-more script k turn at)
    ∙ with_events-append thread (events_of (take k script)) (events_of_turn turn) []
    ∙ with_events-turn thread turn (with_events thread (events_of (take k script)) []))

pub alone-whole : (scripts : List (List Turn)) (thread k : ℕ) → slice_get (script_at scripts thread) k ≡ None
    → with_events thread (events_of (take k (script_at scripts thread))) [] ≡ alone scripts thread
alone-whole scripts thread k none =
    ap (λ (turns : List Turn). with_events thread (events_of turns) [])
    (take_all k (script_at scripts thread) (done-length (script_at scripts thread) k none))

-- an element by its place
pub at-place : (order : List ℕ) (entry : ℕ) → entry < length order
    → slice_get order entry ≡ Some (slice_index_or order entry 0)
at-place [] entry within = absurd (omega (arith, within))
at-place (x ∷ order) zero within = refl
at-place (x ∷ order) (suc entry) within = at-place order entry (omega (arith, within))

-- a step of a walk over an order
pub record IsStep (scripts : List (List Turn)) (order done : List ℕ) (entry count thread place : ℕ) (turn : Turn) : Type
    0 where
  pub within : entry + count ≤ length order
  pub taken : AreTaken scripts (take (entry + count) order) (slice_set done thread (place + 1))
  pub means : actions scripts (take (entry + count) order) ≡ with_turn thread turn (actions scripts (take entry order))

pub walk-next : (scripts : List (List Turn)) (order done : List ℕ) (entry count thread place : ℕ) (turn : Turn)
    → IsUnder scripts order → AreTaken scripts (take entry order) done → entry < length order
    → length done ≡ length scripts → slice_get order entry ≡ Some thread → done_at done thread ≡ place
    → slice_get (script_at scripts thread) place ≡ Some turn → count ≡ length (entries_of thread turn)
    → IsStep scripts order done entry count thread place turn
walk-next scripts order done entry count thread place turn under taken within threads at here said counted =
    let k = done_at done thread in
    let found : slice_get (script_at scripts thread) k ≡ Some turn =
    ap (λ (n : ℕ). slice_get (script_at scripts thread) n) here ∙ said in
    let front : take (entry + count) order ≡ take entry order ++ entries_of thread turn =
    ap (λ (n : ℕ). take (entry + n) order) counted
    ∙ turn-entries scripts order entry thread k turn under at found (taken thread) in
    let there : thread < length done = omega (arith, entry-there scripts order entry thread under at, threads) in
    let len = ap length front ∙ length-append (take entry order) (entries_of thread turn) in
    record {
      within = omega (arith, len, counted, within, length-take (entry + count) order, length-take entry order);
      taken = subst (λ (left : List ℕ). AreTaken scripts left (slice_set done thread (place + 1))) (sym front)
          (subst
          (λ (n : ℕ). AreTaken scripts (take entry order ++ entries_of thread turn) (slice_set done thread (n + 1)))
          here (taken-next scripts (take entry order) done thread turn taken there found));
      means =
          ap (λ (left : List ℕ). actions scripts left) front
          ∙ actions-turn scripts (take entry order) thread k turn found (taken thread);
    }
