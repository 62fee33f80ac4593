-- How much of the recording a check keeps, step by step.
use Rattle.std.proofs.Common.{◌≡◌, ℕ, Bool, true, false, cond, inl, inr, List, [], ◌++◌, length, Option, None, Some}
use Rattle.std.proofs.Common.{refl, sym, ap, ◌∙◌, subst, arith, append-nil}
use Rattle.std.specs.Prelude.{nat_lt, slice_get}
use Rattle.std.proofs.lemmas.Bool.Decides.{nat_tests}
use Rattle.std.proofs.lemmas.Option.{slice_get_within}
use Rattle.record_scripts.specs.Events.{Event}
use Rattle.record_scripts.specs.Job.{Job}
use Rattle.record_book.specs.Actions.{events_at, times}
use Rattle.record_book.specs.BookState.{stepped, turn_entries}
use Rattle.record_book.specs.RecordedTrace.{recorded}
use Rattle.order_check.specs.CheckState.{CheckState, following_of}
use Rattle.order_check.specs.Following.{Following, added, at_place, turn_begun}
use Rattle.order_check.specs.KeptTurn.{KeepsOneTurn, KeepsTurn}
use Rattle.order_check.proofs.LineTexts.{nothing-more}

-- no turn is begun
pub kept-new : (job : Job) (order kept : List ℕ) → order ≡ [] → kept ≡ recorded job order → KeepsTurn job order kept
kept-new job order kept none whole = inr (inl (none, whole ∙ ap (recorded job) none))

-- nothing was begun or let go
pub kept-same : (old new : CheckState) → new.job ≡ old.job → new.order ≡ old.order → new.kept ≡ old.kept
    → KeepsOneTurn old → KeepsOneTurn new
kept-same old new job order kept keeps =
    subst (λ (j : Job). KeepsTurn j new.order new.kept) (sym job)
    (subst (λ (o : List ℕ). KeepsTurn old.job o new.kept) (sym order)
    (subst (λ (k : List ℕ). KeepsTurn old.job old.order k) (sym kept) keeps))

-- a script that is done adds nothing
pub nothing-stepped : (job : Job) (thread : ℕ) (order new more : List ℕ) → new ≡ stepped job.scripts thread order
    → nat_lt (times thread order) (length (events_at job.scripts thread)) ≡ false
    → recorded job new ≡ recorded job order ++ more → more ≡ []
nothing-stepped job thread order new more is done text =
    by (slice_get (events_at job.scripts thread) (times thread order)) refl
  where
    by : (found : Option Event) → slice_get (events_at job.scripts thread) (times thread order) ≡ found → more ≡ []
    by (Some event) at =
        let within =
        slice_get_within (events_at job.scripts thread) (times thread order) event at in absurd
        (grind (arith, nat_tests, done, within))
    by None at =
        let same : new ≡ order =
        is ∙ ap (λ (found : Option Event). order ++ turn_entries thread found) at ∙ append-nil order in
        nothing-more (recorded job order) more (sym text ∙ ap (recorded job) same)

-- a turn was begun, of which nothing was compared
pub kept-begun : (old new : CheckState) (thread : Option ℕ) → new.job ≡ old.job
    → turn_begun old.job old.order thread ≡ Some (following_of new) → new.kept ≡ new.coming → KeepsOneTurn new
kept-begun old new None job begun kept = absurd (cc)
kept-begun old new (Some thread) job begun kept =
    by (nat_lt (times thread old.order) (length (events_at old.job.scripts thread))) begun
  where
    by : (t : Bool)
        → cond t (Some (at_place (stepped old.job.scripts thread old.order) (added old.job old.order thread))) None
        ≡ Some (following_of new)
        → KeepsOneTurn new
    by false is = absurd (cc)
    by true is =
        let same : at_place (stepped old.job.scripts thread old.order) (added old.job old.order thread)
        ≡ following_of new = cc in
        subst (λ (j : Job). KeepsTurn j new.order new.kept) (sym job)
        (inr (inr (record {
          earlier = old.order;
          thread = thread;
          order_is = ap (λ (f : Following). f.order) (sym same);
          bytes_are = kept ∙ ap (λ (f : Following). f.coming) (sym same);
        })))
