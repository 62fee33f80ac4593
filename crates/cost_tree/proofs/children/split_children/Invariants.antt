use Rattle.std.proofs.Common.{◌≡◌, ◌++◌, filter, map, take}
use Rattle.cost_tree.specs.Shares.{child_at, gathered_in, is_kept_at, is_small_at}
use Rattle.cost_tree.proofs.children.split_children.Given as goal

abbrev pub invariant-each_node : goal.invariant-each_node
invariant-each_node l = record {
  kept : l.kept.items
      ≡ l.initial.kept.items ++ map (child_at l.tree) (filter (is_kept_at l.scale l.tree) (take l.node-index l.nodes));
  gathered : l.gathered ≡ gathered_in l.tree (filter (is_small_at l.scale l.tree) (take l.node-index l.nodes));
}
