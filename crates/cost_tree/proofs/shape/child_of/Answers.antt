use Rattle.std.proofs.Common.{refl}
use Rattle.cost_tree.proofs.shape.child_of.Goals as goal

pub returns-clause-child : goal.returns-clause-child
returns-clause-child c = (c.in_ok-place.place, refl, c.in_ok-place.ensures.child)
