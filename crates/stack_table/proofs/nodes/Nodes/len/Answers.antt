use Rattle.stack_table.proofs.EntryLemmas.{AreNodes-table}
use Rattle.stack_table.proofs.nodes.Nodes.len.Goals as goal

pub returns-clause-nodes : goal.returns-clause-nodes
returns-clause-nodes c = AreNodes-table c.self.inside.entries.items c.args.self.now c.self.view_is c.self.invariant.0
