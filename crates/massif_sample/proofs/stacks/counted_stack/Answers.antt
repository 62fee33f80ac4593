use Rattle.std.proofs.Common.{refl}
use Rattle.massif_sample.proofs.stacks.counted_stack.Goals as goal

pub unless_ignored-requires : goal.unless_ignored-requires
unless_ignored-requires c = let held = rw c.in-Alloc.is at c.requires.held in held c.in-Alloc.stack refl

pub unless_ignored-requires-in-Free : goal.unless_ignored-requires-in-Free
unless_ignored-requires-in-Free c = let held = rw c.in-Free.is at c.requires.held in held c.in-Free.stack refl
