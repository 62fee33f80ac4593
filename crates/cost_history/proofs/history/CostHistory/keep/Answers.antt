use Rattle.std.proofs.Common.{List, length, ap, subst, sym, ◌∙◌}
use Rattle.cost_history.specs.declared.change.Change.{Change}
use Rattle.cost_history.specs.Changes.{cost_at}
use Rattle.cost_history.specs.HistoryView.{IsKept, history_of}
use Rattle.cost_history.specs.Marks.{candidates}
use Rattle.cost_history.proofs.Costs.{between-stacks}
use Rattle.cost_history.proofs.Telling.{kept-before, kept-grown, kept-here}
use Rattle.cost_history.proofs.history.CostHistory.keep.Goals as goal

pub invariant_of-self : goal.invariant_of-self
invariant_of-self g c =
    kept-grown c.self.inside.changes.items c.self.inside.cells.items c.grow.new.cells.items c.self.inside.last
    c.grow.ensures.least c.self.invariant

pub invariant_of-self-in_err-push_changes : goal.invariant_of-self-in_err-push_changes
invariant_of-self-in_err-push_changes g c =
    subst (λ (xs : List Change). IsKept xs c.grow.new.cells.items c.self.inside.last)
    (sym c.in_err-push_changes.ensures.unchanged)
    (kept-grown c.self.inside.changes.items c.self.inside.cells.items c.grow.new.cells.items c.self.inside.last
    c.grow.ensures.least c.self.invariant)

pub invariant_of-self-2 : goal.invariant_of-self-2
invariant_of-self-2 g c = record {
  between =
      c.in_ok-push_changes.ensures.between (length c.grow.new.cells.items) c.self.inside.last
      c.in_ok-grow.ensures.enough (rw (← c.self.view_is) at c.requires.ascends)
      (between-stacks (length c.self.inside.cells.items) (length c.grow.new.cells.items) 0 c.self.inside.changes.items
      c.self.inside.last c.grow.ensures.least c.self.invariant.between);
  last_most = c.requires.most;
}

pub returns-clause-before : goal.returns-clause-before
returns-clause-before g c =
    rw (← c.self.view_is) (λ costs said seer stack early.
    ap (λ (xs : List Change). cost_at xs seer stack) (c.in_ok-push_changes.ensures.pushed costs said.said)
    ∙ kept-before c.self.inside.changes.items c.args.stacks c.args.place costs
    (candidates c.self.inside.marks.marks c.args.stacks) seer stack early)

pub returns-clause-here : goal.returns-clause-here
returns-clause-here g c =
    let ascends = rw (← c.self.view_is) at c.requires.ascends in
    rw (← c.self.view_is) (λ costs said grown tells seer stack late.
    ap (λ (xs : List Change). cost_at xs seer stack) (c.in_ok-push_changes.ensures.pushed costs said.said)
    ∙ kept-here
    (history_of c.self.inside.marks c.self.inside.changes.items c.self.inside.cells.items c.self.inside.left
    c.self.inside.last).history
    c.args.stacks c.args.place costs _ c.self.inside.last seer stack
    said grown c.self.invariant.between ascends tells late)
