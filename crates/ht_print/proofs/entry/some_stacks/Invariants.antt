use Rattle.std.specs.Prelude.{◌≡◌}
use Rattle.ht_print.proofs.EntryLists.{first-stacks}
use Rattle.ht_print.proofs.entry.some_stacks.Given as goal

-- the stacks so far
abbrev pub invariant-each_stack : goal.invariant-each_stack
invariant-each_stack l = l.stacks.items ≡ first-stacks l.figures l.stack
