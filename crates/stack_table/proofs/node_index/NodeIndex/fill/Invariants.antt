use Rattle.std.proofs.Common.{◌-◌, length}
use Rattle.stack_table.specs.Entries.{nodes_of}
use Rattle.stack_table.specs.NodeIndexed.{IsIndexed}
use Rattle.stack_table.proofs.node_index.NodeIndex.fill.Given as goal

abbrev pub invariant-loop-self : goal.invariant-loop-self
invariant-loop-self l = IsIndexed (nodes_of l.entries) l.self

abbrev pub decreases-loop-self : goal.decreases-loop-self
decreases-loop-self l = length l.entries - l.self.count
