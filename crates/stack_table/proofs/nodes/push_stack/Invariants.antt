use Rattle.std.proofs.Common.{◌≡◌, ◌+◌, ◌≤◌, ◌++◌, length, vec_len, vec_capacity}
use Rattle.stack_table.specs.Entries.{nodes_of}
use Rattle.stack_table.specs.Stack.{stack}
use Rattle.stack_table.proofs.nodes.push_stack.Given as goal

-- what is appended so far and what is left of the stack are the whole stack, and what is left fits
abbrev pub invariant-outwards : goal.invariant-outwards
invariant-outwards l = record {
  held : l.at ≤ length l.entries;
  appended : l.out.items ++ stack (nodes_of l.entries) l.at ≡ l.initial.out.items ++ stack (nodes_of l.entries) l.n;
  room : vec_len l.out + length (stack (nodes_of l.entries) l.at) ≤ vec_capacity l.out;
}

abbrev pub decreases-outwards : goal.decreases-outwards
decreases-outwards l = l.at
