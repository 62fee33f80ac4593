use Rattle.std.proofs.Common.{arith}
use Rattle.stack_table.proofs.EntryLemmas.{read}
use Rattle.stack_table.proofs.nodes.Nodes.node.Goals as goal

pub returns-clause-lower_parent : goal.returns-clause-lower_parent
returns-clause-lower_parent c =
    (read c.self.inside.entries.items c.args.self.now c.args.n c.index-entry.result.now c.self.invariant.0
    c.self.view_is (omega arith) (omega arith) c.index-entry.ensures).lower_parent

pub returns-clause-stack : goal.returns-clause-stack
returns-clause-stack c =
    (read c.self.inside.entries.items c.args.self.now c.args.n c.index-entry.result.now c.self.invariant.0
    c.self.view_is (omega arith) (omega arith) c.index-entry.ensures).unfolds
