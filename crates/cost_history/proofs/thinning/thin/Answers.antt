use Rattle.std.proofs.Common.{ℕ, List, drop, ap, subst, sym, ◌∙◌}
use Rattle.std.proofs.lemmas.List.Sorted.{IsNonDecreasingBy-from_sort}
use Rattle.cost_history.specs.declared.change.Change.{Change}
use Rattle.cost_history.specs.Changes.{AreParted, IsAsked, cost_at}
use Rattle.cost_history.specs.Seen.{AreAscending}
use Rattle.cost_history.proofs.Sifting.{asked-moved, parted-moved}
use Rattle.cost_history.proofs.thinning.thin.Goals as goal

pub sift-left-requires-clause-ascending : goal.sift-left-requires-clause-ascending
sift-left-requires-clause-ascending c =
    subst (λ (xs : List ℕ). AreAscending xs) (sym c.deref.ensures.value)
    (λ i j up within. IsNonDecreasingBy-from_sort (λ (n : ℕ). n) c.sort_unstable.new.self.items
    c.sort_unstable.ensures.sorted i j 0 up within)

pub returns-clause-costs : goal.returns-clause-costs
returns-clause-costs c = λ place asked stack.
    ap (λ (xs : List Change). cost_at xs place stack) c.move_down.ensures
    ∙ c.sift-left.ensures.sifted.costs place
    (subst (λ (xs : List ℕ). IsAsked xs c.args.last place) (sym c.deref.ensures.value)
    (asked-moved c.args.kept.now.items c.sort_unstable.new.self.items c.args.last place
    c.sort_unstable.ensures.permutation asked))
    stack

pub returns-clause-parted : goal.returns-clause-parted
returns-clause-parted c =
    subst (λ (xs : List Change). AreParted c.args.kept.now.items xs) (sym c.move_down.ensures)
    (parted-moved c.args.kept.now.items c.sort_unstable.new.self.items
    (drop c.sift-left.result c.sift-left.new.changes.items) c.sort_unstable.ensures.permutation
    (subst (λ (xs : List ℕ). AreParted xs (drop c.sift-left.result c.sift-left.new.changes.items)) c.deref.ensures.value
    c.sift-left.ensures.sifted.parted))
