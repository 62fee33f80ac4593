use Rattle.stack_table.proofs.EntryLemmas.{AreNodes-table}
use Rattle.stack_table.proofs.nodes.Nodes.stack_into.Goals as goal

pub returns-clause-nodes : goal.returns-clause-nodes
returns-clause-nodes c = AreNodes-table c.self.inside.entries.items c.args.self.now c.self.view_is c.self.invariant.0

pub returns-in_err-reserve-clause-nodes : goal.returns-in_err-reserve-clause-nodes
returns-in_err-reserve-clause-nodes c =
    AreNodes-table c.self.inside.entries.items c.args.self.now c.self.view_is c.self.invariant.0
