-- A node can be added where its parent is held, its stack has at most 4,096 frames, and there is a
-- number for it.
use Rattle.std.specs.Prelude.{ℕ, ◌+◌, ◌-◌, ◌^◌, ◌<◌, ◌≤◌, List, length}
use Rattle.stack_table.specs.Node.{Node}
use Rattle.stack_table.specs.Stack.{frame_count, most_frames}

-- the parent is held or 0, the new stack has at most 4,096 frames, and the list isn't full
pub record CanAdd (nodes : List Node) (parent frames : ℕ) : Type 0 where
  pub parent_held : parent ≤ length nodes
  pub not_too_deep : frame_count nodes parent + frames ≤ most_frames
  pub not_full : length nodes < 2 ^ 32 - 2
