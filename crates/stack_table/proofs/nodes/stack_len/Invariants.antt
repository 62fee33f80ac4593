use Rattle.std.proofs.Common.{◌≡◌, ◌+◌, ◌≤◌, length}
use Rattle.stack_table.specs.Entries.{nodes_of}
use Rattle.stack_table.specs.Stack.{stack}
use Rattle.stack_table.proofs.nodes.stack_len.Given as goal

-- what is counted so far and what is left of the stack are the whole stack
abbrev pub invariant-outwards : goal.invariant-outwards
invariant-outwards l = record {
  few : l.len + l.at ≤ l.n;
  counted : l.len + length (stack (nodes_of l.entries) l.at) ≡ length (stack (nodes_of l.entries) l.n);
}

abbrev pub decreases-outwards : goal.decreases-outwards
decreases-outwards l = l.at
