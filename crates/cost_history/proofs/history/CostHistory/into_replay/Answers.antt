use Rattle.std.proofs.Common.{length}
use Rattle.cost_history.proofs.Costs.{behind-beyond}
use Rattle.cost_history.proofs.history.CostHistory.into_replay.Goals as goal

pub returns-clause-none : goal.returns-clause-none
returns-clause-none c =
    rw (← c.self.view_is)
    (λ place stack beyond. behind-beyond (length c.self.inside.cells.items) 0 c.self.inside.changes.items
    c.self.inside.last 0 place stack beyond c.self.invariant.between)
