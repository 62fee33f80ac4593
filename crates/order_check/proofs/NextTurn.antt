-- The turn that comes next in an order under scripts.
use Rattle.std.proofs.Common.{◌≡◌, ℕ, zero, suc, ◌+◌, ◌≤◌, ◌==◌, Bool, true, false, cond, List, [], ◌∷◌, ◌++◌, length}
use Rattle.std.proofs.Common.{reverse, Option, None, Some, refl, sym, ap, ◌∙◌, subst, arith, append_assoc}
use Rattle.std.specs.Prelude.{IfSome, slice_get}
use Rattle.std.proofs.lemmas.Bool.Decides.{nat_tests}
use Rattle.std.proofs.lemmas.List.{reverse-append}
use Rattle.std.proofs.lemmas.Option.{slice_get_within}
use Rattle.record_scripts.specs.Events.{Event, allocation, events_of, free}
use Rattle.record_scripts.specs.Turns.{Turn, allocates, frees, reallocates, script_at}
use Rattle.record_book.specs.Actions.{Action, actions, actions_back, events_at, times, with_event}
use Rattle.record_book.specs.BookState.{stepped, turn_entries}
use Rattle.record_book.specs.Orders.{ArePaired, Continues, IsUnder, awaited}
use Rattle.record_book.proofs.Laws.{actions-none, actions-push, there, times-append, times-reverse}
use Rattle.order_check.proofs.RecordedLines.{once}

-- the entry of an event
pub pushed : (scripts : List (List Turn)) (order : List ℕ) (thread : ℕ) (event : Event)
    → slice_get (events_at scripts thread) (times thread order) ≡ Some event
    → actions scripts (order ++ thread ∷ []) ≡ record { thread = thread; event = event } ∷ actions scripts order
pushed scripts order thread event at =
    actions-push scripts order thread
    ∙ ap (λ (count : ℕ). with_event thread (slice_get (events_at scripts thread) count) (actions scripts order))
    (times-reverse thread order)
    ∙ ap (λ (found : Option Event). with_event thread found (actions scripts order)) at

-- a front of an order parts no reallocation
paired-back : (scripts : List (List Turn)) (xs back : List ℕ) → ArePaired (actions_back scripts (xs ++ back))
    → ArePaired (actions_back scripts back)
paired-back scripts [] back paired = paired
paired-back scripts (x ∷ xs) back paired =
    paired-back scripts xs back (by (slice_get (events_at scripts x) (times x (xs ++ back))) paired)
  where
    by : (found : Option Event) → ArePaired (with_event x found (actions_back scripts (xs ++ back)))
        → ArePaired (actions_back scripts (xs ++ back))
    by None paired = paired
    by (Some event) paired = paired.1

paired-front : (scripts : List (List Turn)) (order rest : List ℕ) → ArePaired (actions scripts (order ++ rest))
    → ArePaired (actions scripts order)
unfolding actions
paired-front scripts order rest paired =
    paired-back scripts (reverse rest) (reverse order)
    (subst (λ (back : List ℕ). ArePaired (actions_back scripts back)) (reverse-append order rest) paired)

-- a thread that stands behind a front has an event there
times-more : (thread : ℕ) (order rest : List ℕ)
    → times thread (order ++ thread ∷ rest) ≡ times thread order + (1 + times thread rest)
times-more thread order rest =
    omega (arith, times-append thread order (thread ∷ rest), times-append thread (thread ∷ []) rest, once thread)

pub event-there : (scripts : List (List Turn)) (order rest : List ℕ) (thread : ℕ)
    → ((other : ℕ) → times other (order ++ thread ∷ rest) ≤ length (events_at scripts other))
    → (event : Event) × (slice_get (events_at scripts thread) (times thread order) ≡ Some event)
event-there scripts order rest thread few =
    there (events_at scripts thread) (times thread order) (omega (arith, few thread, times-more thread order rest))

-- the order goes on with the whole turn
pub record GoesOn (scripts : List (List Turn)) (order : List ℕ) (thread : ℕ) (whole : List ℕ) : Type 0 where
  pub event : Event
  pub at : slice_get (events_at scripts thread) (times thread order) ≡ Some event
  pub continues : Continues (stepped scripts thread order) whole

single : (scripts : List (List Turn)) (order rest : List ℕ) (thread : ℕ) (event : Event)
    → slice_get (events_at scripts thread) (times thread order) ≡ Some event
    → turn_entries thread (Some event) ≡ thread ∷ [] → GoesOn scripts order thread (order ++ thread ∷ rest)
single scripts order rest thread event at one = record {
  event = event;
  at = at;
  continues = (
    rest,
    sym (ap (λ (found : Option Event). (order ++ turn_entries thread found) ++ rest) at
        ∙ ap (λ (entries : List ℕ). (order ++ entries) ++ rest) one ∙ append_assoc order (thread ∷ []) rest),
  );
}

double : (scripts : List (List Turn)) (order rest : List ℕ) (thread : ℕ) (id : ℕ)
    → slice_get (events_at scripts thread) (times thread order) ≡ Some (free id true)
    → IsUnder scripts (order ++ thread ∷ rest) → GoesOn scripts order thread (order ++ thread ∷ rest)
double scripts order [] thread id at under =
    let open_end : Some thread ≡ None =
    sym (ap awaited (pushed scripts order thread (free id true) at)) ∙ under.closed in
    absurd (cc)
double scripts order (next ∷ rest) thread id at under =
    let front : List ℕ = order ++ thread ∷ [] in
    let whole : order ++ thread ∷ next ∷ rest ≡ front ++ next ∷ rest =
    sym (append_assoc order (thread ∷ []) (next ∷ rest)) in
    let found =
    event-there scripts front rest next
    (λ other. subst (λ (entries : List ℕ). times other entries ≤ length (events_at scripts other)) whole
    (under.at_most other)) in
    let longer : order ++ thread ∷ next ∷ rest ≡ (front ++ next ∷ []) ++ rest =
    whole ∙ sym (append_assoc front (next ∷ []) rest) in
    let paired : ArePaired (actions scripts (front ++ next ∷ [])) =
    paired-front scripts (front ++ next ∷ []) rest
    (subst (λ (entries : List ℕ). ArePaired (actions scripts entries)) longer under.paired) in
    let both : ArePaired (record { thread = next; event = found.0 } ∷ actions scripts front) =
    subst ArePaired (pushed scripts front next found.0 found.1) paired in
    let all : ArePaired
    (record { thread = next; event = found.0 } ∷ record { thread = thread; event = free id true }
    ∷ actions scripts order) =
    subst (λ (acts : List Action). ArePaired (record { thread = next; event = found.0 } ∷ acts))
    (pushed scripts order thread (free id true) at) both in
    let same : next ≡ thread = all.0 in
    record {
      event = free id true;
      at = at;
      continues = (
        rest,
        sym (ap (λ (found : Option Event). (order ++ turn_entries thread found) ++ rest) at
            ∙ append_assoc order (thread ∷ thread ∷ []) rest
            ∙ ap (λ (n : ℕ). order ++ thread ∷ n ∷ rest) (sym same)),
      );
    }

pub goes-on : (scripts : List (List Turn)) (order rest : List ℕ) (thread : ℕ) → IsUnder scripts (order ++ thread ∷ rest)
    → GoesOn scripts order thread (order ++ thread ∷ rest)
goes-on scripts order rest thread under =
    let found = event-there scripts order rest thread under.at_most in by found.0 found.1
  where
    by : (event : Event) → slice_get (events_at scripts thread) (times thread order) ≡ Some event
        → GoesOn scripts order thread (order ++ thread ∷ rest)
    by (allocation id size ips) at = single scripts order rest thread (allocation id size ips) at refl
    by (free id false) at = single scripts order rest thread (free id false) at refl
    by (free id true) at = double scripts order rest thread id at under

-- the allocation of a reallocation stands behind its free
pub rejoined-next : (script : List Turn) (n id : ℕ) → slice_get (events_of script) n ≡ Some (free id true)
    → (event : Event) × (slice_get (events_of script) (suc n) ≡ Some event)
    × ((thread : ℕ) → awaited (record { thread = thread; event = event } ∷ []) ≡ None)
rejoined-next [] n id at = absurd (cc)
rejoined-next (allocates i size ips ∷ script) zero id at = absurd (cc)
rejoined-next (allocates i size ips ∷ script) (suc n) id at = rejoined-next script n id at
rejoined-next (frees i ∷ script) zero id at = absurd (cc)
rejoined-next (frees i ∷ script) (suc n) id at = rejoined-next script n id at
rejoined-next (reallocates i size ips ∷ script) zero id at = (allocation i size ips, refl, λ thread. refl)
rejoined-next (reallocates i size ips ∷ script) (suc zero) id at = absurd (cc)
rejoined-next (reallocates i size ips ∷ script) (suc (suc n)) id at = rejoined-next script n id at

-- an entry more that means an event
entry-few : (scripts : List (List Turn)) (order : List ℕ) (thread : ℕ) (event : Event)
    → slice_get (events_at scripts thread) (times thread order) ≡ Some event
    → ((other : ℕ) → times other order ≤ length (events_at scripts other)) → (other : ℕ)
    → times other (order ++ thread ∷ []) ≤ length (events_at scripts other)
entry-few scripts order thread event at few other = by (thread == other) refl
  where
    by : (t : Bool) → (thread == other) ≡ t → times other (order ++ thread ∷ []) ≤ length (events_at scripts other)
    by true p =
        let same : thread ≡ other = grind (arith, nat_tests, p) in
        let within = slice_get_within (events_at scripts thread) (times thread order) event at in
        subst (λ (n : ℕ). times n (order ++ thread ∷ []) ≤ length (events_at scripts n)) same
        (omega (arith, within, times-append thread order (thread ∷ []), once thread))
    by false p =
        let none : times other (thread ∷ []) ≡ 0 = ap (λ (t : Bool). cond t 1 0 + 0) p in
        omega (arith, few other, times-append other order (thread ∷ []), none)

-- an order under scripts, or the same with the free of a reallocation behind it, with an entry more
record AreTaken (scripts : List (List Turn)) (order : List ℕ) : Type 0 where
  few : (thread : ℕ) → times thread order ≤ length (events_at scripts thread)
  paired : ArePaired (actions scripts order)

taken-more : (scripts : List (List Turn)) (order : List ℕ) (thread : ℕ) (event : Event)
    → slice_get (events_at scripts thread) (times thread order) ≡ Some event
    → AreTaken scripts order → IfSome (awaited (actions scripts order)) (λ other. thread ≡ other)
    → AreTaken scripts (order ++ thread ∷ [])
taken-more scripts order thread event at taken waits = record {
  few = entry-few scripts order thread event at taken.few;
  paired = subst ArePaired (sym (pushed scripts order thread event at)) (waits, taken.paired);
}

-- an order under scripts with a turn more is under them
pub stepped-under : (scripts : List (List Turn)) (order : List ℕ) (thread : ℕ) (event : Event) → IsUnder scripts order
    → slice_get (events_at scripts thread) (times thread order) ≡ Some event
    → IsUnder scripts (stepped scripts thread order)
stepped-under scripts order thread event under at =
    subst (λ (found : Option Event). IsUnder scripts (order ++ turn_entries thread found)) (sym at) (by event at)
  where
    taken : AreTaken scripts order
    taken = record { few = under.at_most; paired = under.paired }

    waits : IfSome (awaited (actions scripts order)) (λ other. thread ≡ other)
    waits = subst (λ (found : Option ℕ). IfSome found (λ other. thread ≡ other)) (sym under.closed) tt

    one : (event : Event) → slice_get (events_at scripts thread) (times thread order) ≡ Some event
        → awaited (record { thread = thread; event = event } ∷ actions scripts order) ≡ None
        → IsUnder scripts (order ++ thread ∷ [])
    one event at closed =
        let more = taken-more scripts order thread event at taken waits in
        record {
          at_most = more.few;
          paired = more.paired;
          closed = ap awaited (pushed scripts order thread event at) ∙ closed;
        }

    two : (id : ℕ) → slice_get (events_at scripts thread) (times thread order) ≡ Some (free id true)
        → IsUnder scripts (order ++ thread ∷ thread ∷ [])
    two id at =
        let front : List ℕ = order ++ thread ∷ [] in
        let next = rejoined-next (script_at scripts thread) (times thread order) id at in
        let count : times thread front ≡ suc (times thread order) =
        omega (arith, times-append thread order (thread ∷ []), once thread) in
        let at_next : slice_get (events_at scripts thread) (times thread front) ≡ Some next.0 =
        ap (λ (n : ℕ). slice_get (events_at scripts thread) n) count ∙ next.1 in
        let opened : awaited (actions scripts front) ≡ Some thread =
        ap awaited (pushed scripts order thread (free id true) at) in
        let more =
        taken-more scripts front thread next.0 at_next (taken-more scripts order thread (free id true) at taken waits)
        (subst (λ (found : Option ℕ). IfSome found (λ other. thread ≡ other)) (sym opened) refl) in
        let P : List ℕ → Type 0 = IsUnder scripts in
        subst P (append_assoc order (thread ∷ []) (thread ∷ []))
        (record {
          at_most = more.few;
          paired = more.paired;
          closed = ap awaited (pushed scripts front thread next.0 at_next) ∙ next.2 thread;
        })

    by : (event : Event) → slice_get (events_at scripts thread) (times thread order) ≡ Some event
        → IsUnder scripts (order ++ turn_entries thread (Some event))
    by (allocation id size ips) at = one (allocation id size ips) at refl
    by (free id false) at = one (free id false) at refl
    by (free id true) at = two id at

-- nothing is taken
pub under-none : (scripts : List (List Turn)) → IsUnder scripts []
under-none scripts = record {
  at_most = λ thread. omega arith;
  paired = subst ArePaired (sym (actions-none scripts)) tt;
  closed = ap awaited (actions-none scripts);
}
