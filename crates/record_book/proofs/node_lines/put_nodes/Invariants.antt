use Rattle.std.proofs.Common.{◌≡◌, ℕ, ◌+◌, ◌≤◌, List, ◌++◌, length}
use Rattle.hp_num.specs.Extends.{Extends}
use Rattle.stack_table.specs.Continues.{Continues}
use Rattle.record_book.specs.NodeState.{AreNumbered, ArePut}
use Rattle.record_book.proofs.node_lines.put_nodes.Given as goal

-- the outer part of the stack is put, and what is left is the inner part
abbrev pub invariant-loop-ip : goal.invariant-loop-ip
invariant-loop-ip l =
    (outer : List ℕ) × (l.ips ≡ l.ip-iterator.iter.rest.now ++ outer)
    × ((known : List (List ℕ)) → AreNumbered l.initial.nodes known
    → ArePut known outer l.nodes l.parent l.initial.text.items l.text.items)
    × (l.parent ≤ length l.nodes) × (length l.nodes ≤ length l.initial.nodes + length outer)
    × Continues l.initial.nodes l.nodes × Extends l.initial.text.items l.text.items
