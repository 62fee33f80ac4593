use Rattle.ht_print.specs.PlacedStacks.{AreLinked}
use Rattle.ht_print.proofs.placed_stacks.PlacedStacks.of.Given as goal

-- the stacks so far are linked
abbrev pub invariant-each_stack : goal.invariant-each_stack
invariant-each_stack l = AreLinked l.places l.stacks l.k l.last.items l.before.items
