use Rattle.stack_table.specs.Entries.{nodes_of}
use Rattle.stack_table.specs.NodeIndexed.{IsPassed}
use Rattle.stack_table.proofs.node_index.find_after.Given as goal

-- none of the nodes so far is the one that is sought
abbrev pub invariant-loop-place : goal.invariant-loop-place
invariant-loop-place l = IsPassed (nodes_of l.entries) l.ip l.parent l.place
