use Rattle.std.proofs.Common.{◌≡◌, ◌≤◌, length}
use Rattle.std.specs.Prelude.{All}
use Rattle.ht_trace.specs.TableState.{TableState}
use Rattle.ht_print.specs.PlacedStacks.{groups_up_to}
use Rattle.ht_print.specs.Places.{TellPlaces}
use Rattle.ht_print.proofs.groups.ordered_groups.Given as goal

-- the groups so far
abbrev pub invariant-each_stack : goal.invariant-each_stack
invariant-each_stack l = (tables : TableState) → TellPlaces tables l.places
    → All (λ stack. stack.stack ≤ length tables.nodes) l.placed.stacks.now
    → l.groups.items ≡ groups_up_to tables l.placed.stacks.now l.k
