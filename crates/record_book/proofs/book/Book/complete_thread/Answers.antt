use Rattle.std.proofs.Common.{◌≡◌, ℕ, ◌<◌, List, ◌++◌, length, sym, ap, ◌∙◌, subst, arith, append_assoc}
use Rattle.std.specs.Prelude.{slice_get}
use Rattle.record_scripts.specs.Job.{Job}
use Rattle.record_book.specs.Actions.{events_at, times}
use Rattle.record_book.specs.BookState.{turn_entries}
use Rattle.record_book.specs.Orders.{IsUnder}
use Rattle.record_book.proofs.FinishLemmas.{stepped-other, stepped-own}
use Rattle.record_book.proofs.book.Book.complete_thread.Goals as goal

pub turns-smaller : goal.turns-smaller
turns-smaller c =
    let old = c.turns.self in
    let new = c.step.new.self in
    let more = sym c.if-branch.true ∙ c.in_ok-step.ensures.step.more_is in
    let order : new.order ≡ _ = c.in_ok-step.ensures.step.order_is in
    let job : new.job ≡ old.job = c.step.ensures.job in
    let same : length (events_at new.job.scripts c.args.thread) ≡ length (events_at old.job.scripts c.args.thread) =
    ap (λ (j : Job). length (events_at j.scripts c.args.thread)) job in
    let grew : times c.args.thread old.order < times c.args.thread new.order =
    subst (λ (entries : List ℕ). times c.args.thread old.order < times c.args.thread entries) (sym order)
    (stepped-own old.job.scripts c.args.thread old.order more) in
    let bound = c.in_ok-step.ensures.step.under.at_most c.args.thread in
    omega (arith, same, grew, bound)

pub turns-preserved : goal.turns-preserved
turns-preserved c =
    let old = c.turns.self in
    let before = c.turns.invariant in
    let order = c.in_ok-step.ensures.step.order_is in
    let entries =
    turn_entries c.args.thread
    (slice_get (events_at old.job.scripts c.args.thread) (times c.args.thread old.order)) in
    record {
      others =
          λ other apart. ap (times other) order ∙ stepped-other old.job.scripts c.args.thread other old.order apart
          ∙ before.others other apart;
      same_job = c.step.ensures.job ∙ before.same_job;
      grown = (
        before.grown.0 ++ entries,
        order ∙ ap (λ (front : List ℕ). front ++ entries) before.grown.1
            ∙ append_assoc c.args.self.now.order before.grown.0 entries,
      );
    }

pub returns-clause-completed : goal.returns-clause-completed
returns-clause-completed c =
    let old = c.turns.self in
    let step = c.in_ok-step.ensures.step in
    let before = c.turns.invariant in
    let entries =
    turn_entries c.args.thread
    (slice_get (events_at old.job.scripts c.args.thread) (times c.args.thread old.order)) in
    record {
      done = step.done c.if-branch.false ∙ ap (λ (j : Job). length (events_at j.scripts c.args.thread))
          (sym c.step.ensures.job);
      others = λ other apart.
          ap (times other) step.order_is
          ∙ stepped-other old.job.scripts c.args.thread other old.order apart ∙ c.turns.invariant.others other apart;
      under = subst (λ (j : Job). IsUnder j.scripts c.step.new.self.order) (sym c.step.ensures.job) step.under;
      grown = (
        before.grown.0 ++ entries,
        step.order_is ∙ ap (λ (front : List ℕ). front ++ entries) before.grown.1
            ∙ append_assoc c.args.self.now.order before.grown.0 entries,
      );
    }
