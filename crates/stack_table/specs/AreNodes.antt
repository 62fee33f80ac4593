-- What holds of the nodes of every table. Of all nodes holds that parents have lower numbers, and
-- that each stack has its node's instruction before its parent's stack and at most 4,096 frames.
use Rattle.std.specs.Prelude.{◌≡◌, ℕ, ◌+◌, ◌≤◌, List, [], ◌∷◌, length, Some}
use Rattle.stack_table.specs.Node.{Node, node_at}
use Rattle.stack_table.specs.Stack.{frame_count, most_frames, stack}
use Rattle.stack_table.specs.LowerParents.{HasLowerParents}

-- parents have lower numbers; stack 0 is empty, and stack n is the instruction pointer of node n, followed by the
-- stack of its parent; the same for frames, of which no stack has more than 4,096
pub record AreNodes (nodes : List Node) : Type 0 where
  pub parents : HasLowerParents nodes
  pub stack_0 : stack nodes 0 ≡ []
  pub stack_n : (n : ℕ) (node : Node) → node_at nodes n ≡ Some node
      → stack nodes n ≡ node.ip ∷ stack nodes node.parent
  pub frames_0 : frame_count nodes 0 ≡ 0
  pub frames_n : (n : ℕ) (node : Node) → node_at nodes n ≡ Some node
      → frame_count nodes n ≡ frame_count nodes node.parent + node.frames
  pub few_frames : (n : ℕ) → n ≤ length nodes → frame_count nodes n ≤ most_frames
