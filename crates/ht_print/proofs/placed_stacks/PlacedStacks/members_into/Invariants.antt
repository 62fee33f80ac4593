use Rattle.ht_print.proofs.LinkLemmas.{Follows}
use Rattle.ht_print.proofs.placed_stacks.PlacedStacks.members_into.Given as goal

-- links lead backwards
abbrev pub decreases-backwards : goal.decreases-backwards
decreases-backwards l = l.at

-- the stacks that are left and those that are read are all of the place
abbrev pub invariant-backwards : goal.invariant-backwards
invariant-backwards l = Follows l.places l.self.stacks.now l.number l.at l.members.items
