use Rattle.std.proofs.Common.{◌≡◌, ℕ, List, ◌++◌, length}
use Rattle.stack_table.proofs.Interning.{IsInterned}
use Rattle.stack_table.proofs.nodes.Nodes.intern_stack.Given as goal

-- the outer part of the stack is interned, and what is left is the inner part
abbrev pub invariant-loop-ip : goal.invariant-loop-ip
invariant-loop-ip l =
    (outer : List ℕ) × (l.ips ≡ l.ip-iterator.iter.rest.now ++ outer) × IsInterned l.initial.self outer l.self l.number
    × (l.len ≡ length l.initial.self)
