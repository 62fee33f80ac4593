-- What the crates above may cite: lists of nodes that grow, and the stacks of the newest node and of older ones.
pub use Rattle.stack_table.proofs.Continuing.{Continues-push, Continues-refl, Continues-trans}
pub use Rattle.stack_table.proofs.Stacks.{frame_count-newest, frame_count-older, frame_count-zero, stack-newest}
pub use Rattle.stack_table.proofs.Stacks.{stack-older}
