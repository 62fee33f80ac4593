-- That a list of nodes only grows. Nodes continue others where they are those and more at the end.
use Rattle.std.specs.Prelude.{◌≡◌, ℕ, ◌≤◌, List, ◌++◌, length, Some}
use Rattle.stack_table.specs.Node.{Node, node_at}
use Rattle.stack_table.specs.NodeNumber.{node_number}
use Rattle.stack_table.specs.Stack.{stack, frame_count}

-- the new nodes are the old ones and more at the end, so that each old node, its stack and its least number stay
pub record Continues (old new : List Node) : Type 0 where
  pub grown : (more : List Node) × (new ≡ old ++ more)
  pub held : length old ≤ length new
  pub nodes : (n : ℕ) → n ≤ length old → node_at new n ≡ node_at old n
  pub stacks : (n : ℕ) → n ≤ length old → stack new n ≡ stack old n
  pub frame_counts : (n : ℕ) → n ≤ length old → frame_count new n ≡ frame_count old n
  pub numbers : (ip parent n : ℕ) → node_number old ip parent ≡ Some n
      → node_number new ip parent ≡ Some n
