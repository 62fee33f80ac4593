-- Each slot so far has the stack of no ips.
use Rattle.std.proofs.Common.{List}
use Rattle.stack_table.specs.Node.{Node}
use Rattle.record_scripts.specs.KnownText.{AreKnownSlots}
use Rattle.record_scripts.proofs.known_stacks.empty_slots.Given as goal

abbrev pub invariant-loop : goal.invariant-loop
invariant-loop l = (nodes : List Node) → AreKnownSlots nodes l.slots.items
