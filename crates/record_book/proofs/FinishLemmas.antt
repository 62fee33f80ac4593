-- Turns until a script is done, and until all are.
use Rattle.std.proofs.Common.{◌≡◌, ◌≢◌, ℕ, zero, suc, ◌<◌, ◌≤◌, ◌==◌, Bool, true, false, cond, ◌⊎◌, inl, inr, List, []}
use Rattle.std.proofs.Common.{◌∷◌, ◌++◌, length, Option, None, Some, refl, ap, ap₂, arith}
use Rattle.std.specs.Prelude.{nat_lt, slice_get}
use Rattle.std.proofs.lemmas.Bool.{cases_lt}
use Rattle.std.proofs.lemmas.Bool.Decides.{nat_tests}
use Rattle.record_scripts.specs.Events.{Event, allocation, free}
use Rattle.record_scripts.specs.Turns.{Turn}
use Rattle.record_scripts.specs.Job.{IsSameWork, Job}
use Rattle.record_book.specs.Actions.{actions, events_at, times}
use Rattle.record_book.specs.BookState.{stepped, turn_entries}
use Rattle.record_book.specs.Orders.{IsInterleaving, IsUnder}
use Rattle.record_book.specs.RecordedTrace.{recorded, trace_text}
use Rattle.record_book.proofs.OrderLemmas.{times-append}

-- the entries of a turn are its thread's
entries-own : (thread : ℕ) (event : Event) → 1 ≤ times thread (turn_entries thread (Some event))
entries-own thread event = by (thread == thread) refl event
  where
    by : (b : Bool) → (thread == thread) ≡ b → (event : Event) → 1 ≤ times thread (turn_entries thread (Some event))
    by true p (allocation id size ips) = omega (arith, ap {B = ℕ} (λ (x : Bool). cond {A = ℕ} x 1 0) p)
    by true p (free id true) = omega (arith, ap {B = ℕ} (λ (x : Bool). cond {A = ℕ} x 1 0) p)
    by true p (free id false) = omega (arith, ap {B = ℕ} (λ (x : Bool). cond {A = ℕ} x 1 0) p)
    by false p event = absurd (grind (arith, nat_tests, p))

entries-other : (thread other : ℕ) (found : Option Event) → thread ≢ other → times other (turn_entries thread found) ≡ 0
entries-other thread other found apart = by (thread == other) refl found
  where
    by : (b : Bool) → (thread == other) ≡ b → (found : Option Event) → times other (turn_entries thread found) ≡ 0
    by true p found = absurd (apart (grind (arith, nat_tests, p)))
    by false p None = refl
    by false p (Some (allocation id size ips)) = omega (arith, ap {B = ℕ} (λ (x : Bool). cond {A = ℕ} x 1 0) p)
    by false p (Some (free id true)) = omega (arith, ap {B = ℕ} (λ (x : Bool). cond {A = ℕ} x 1 0) p)
    by false p (Some (free id false)) = omega (arith, ap {B = ℕ} (λ (x : Bool). cond {A = ℕ} x 1 0) p)

none-length : (events : List Event) (k : ℕ) → slice_get events k ≡ None → length events ≤ k
none-length [] k none = omega arith
none-length (event ∷ events) zero none = absurd (grind (arith, none))
none-length (event ∷ events) (suc k) none = omega (arith, none-length events k none)

-- a turn of a thread brings its script nearer to its end
pub stepped-own : (scripts : List (List Turn)) (thread : ℕ) (order : List ℕ)
    → true ≡ nat_lt (times thread order) (length (events_at scripts thread))
    → times thread order < times thread (stepped scripts thread order)
stepped-own scripts thread order more = by (slice_get (events_at scripts thread) (times thread order)) refl
  where
    below : times thread order < length (events_at scripts thread)
    below = grind (arith, nat_tests, more)

    by : (found : Option Event) → slice_get (events_at scripts thread) (times thread order) ≡ found
        → times thread order < times thread (order ++ turn_entries thread found)
    by None none = absurd (omega (arith, below, none-length (events_at scripts thread) (times thread order) none))
    by (Some event) at =
        omega (arith, times-append thread order (turn_entries thread (Some event)), entries-own thread event)

-- and leaves the others where they are
pub stepped-other : (scripts : List (List Turn)) (thread other : ℕ) (order : List ℕ) → thread ≢ other
    → times other (stepped scripts thread order) ≡ times other order
stepped-other scripts thread other order apart =
    let found = slice_get (events_at scripts thread) (times thread order) in
    omega (arith, times-append other order (turn_entries thread found), entries-other thread other found apart)

pub none-at : (scripts : List (List Turn)) (thread : ℕ) → length scripts ≤ thread
    → length (events_at scripts thread) ≡ 0
none-at [] thread past = refl
none-at (script ∷ scripts) zero past = absurd (omega (arith, past))
none-at (script ∷ scripts) (suc thread) past = none-at scripts thread (omega (arith, past))

-- an order under scripts that are all done
pub interleaving-of : (scripts : List (List Turn)) (order : List ℕ) → IsUnder scripts order
    → ((thread : ℕ) → thread < length scripts → times thread order ≡ length (events_at scripts thread))
    → IsInterleaving scripts order
interleaving-of scripts order under done =
    record { under = under; exactly = λ thread. by thread (cases_lt thread (length scripts)) }
  where
    by : (thread : ℕ) → (thread < length scripts) ⊎ (length scripts ≤ thread)
        → times thread order ≡ length (events_at scripts thread)
    by thread (inl there) = done thread there
    by thread (inr past) = omega (arith, under.at_most thread, none-at scripts thread past)

-- the trace of other scripts, which are the same and have the same modules
pub recorded-same : (one other : Job) (order : List ℕ) → IsSameWork one other
    → recorded one order ≡ recorded other order
recorded-same one other order same =
    ap₂ (λ (modules : List ℕ) (scripts : List (List Turn)). trace_text modules (actions scripts order))
    same.same_modules same.same_scripts
