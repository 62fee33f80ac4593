use Rattle.std.proofs.Common.{◌≡◌, ◌≤◌, ◌++◌, length}
use Rattle.std.specs.Prelude.{vec_capacity}
use Rattle.cost_tree.specs.Children.{chain, children_of}
use Rattle.cost_tree.specs.NodeLinks.{firsts_in, nexts_in}
use Rattle.cost_tree.proofs.Linking.{IsWalk}
use Rattle.cost_tree.proofs.tree.CostTree.push_children.Given as goal

abbrev pub invariant-each_child : goal.invariant-each_child
invariant-each_child l = record {
  walk : IsWalk l.self-inside.nodes.items (firsts_in l.self-inside.links.links.items)
      (nexts_in l.self-inside.links.links.items) l.n l.child;
  rest : l.out.items ++ chain l.self-inside.nodes.items l.n l.child
      ≡ l.initial.out.items ++ children_of l.self-inside.nodes.items l.n;
  room : vec_capacity l.initial.out ≤ vec_capacity l.out;
}

abbrev pub decreases-each_child : goal.decreases-each_child
decreases-each_child l = length (chain l.self-inside.nodes.items l.n l.child)
