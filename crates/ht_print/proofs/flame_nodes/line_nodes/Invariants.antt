use Rattle.std.proofs.Common.{◌≡◌, ◌<◌, ◌++◌, List, length, reverse}
use Rattle.std.specs.Prelude.{All, sum_by}
use Rattle.std.specs.List.{flat_map}
use Rattle.cost_tree.specs.Costed.{Costed}
use Rattle.cost_tree.specs.IsTreeOf.{IsTreeOf}
use Rattle.stack_table.specs.Stack.{most_frames}
use Rattle.ht_print.specs.FlameLines.{HasLine, line_at}
use Rattle.ht_print.specs.FlameWalk.{flame_at}
use Rattle.ht_print.proofs.FlameWalks.{size_at}
use Rattle.ht_print.proofs.flame_nodes.line_nodes.Given as goal

abbrev pub invariant-each_node : goal.invariant-each_node
invariant-each_node l = record {
  held : All (λ m. m < length l.tree.nodes) l.left.items;
  lines : All (HasLine l.tree) l.nodes.items;
  written : (stacks : List Costed) → IsTreeOf l.tree stacks most_frames →
      flat_map (line_at l.tree) l.nodes.items ++ flat_map (flame_at most_frames l.tree stacks) (reverse l.left.items)
      ≡ flame_at most_frames l.tree stacks 0;
}

abbrev pub decreases-each_node : goal.decreases-each_node
decreases-each_node l = sum_by (size_at most_frames l.tree) l.left.items
