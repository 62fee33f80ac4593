use Rattle.cost_tree.proofs.Placing.{edge_eq-other}
use Rattle.cost_tree.proofs.edges.note.Goals as goal

pub returns-clause-others : goal.returns-clause-others
returns-clause-others c =
    λ other differ. c.in_ok-insert.ensures.updates.2 other (edge_eq-other c.args.edge other differ)
