use Rattle.std.proofs.Common.{refl, arith}
use Rattle.cost_tree.proofs.Linking.{IsWalk-read, chain-count, length-children_from}
use Rattle.cost_tree.proofs.tree.CostTree.child_count.Goals as goal

pub overflow_add-count : goal.overflow_add-count
overflow_add-count c =
    let longer = chain-count c.each_child.invariant.walk c.each_child-test.true refl in
    let most = length-children_from c.self.inside.nodes.items c.args.n 1 in
    omega arith

pub each_child-smaller : goal.each_child-smaller
each_child-smaller c =
    omega (arith, chain-count c.each_child.invariant.walk c.each_child-test.true c.next_sibling-child.ensures)

pub each_child-preserved : goal.each_child-preserved
each_child-preserved c = record {
  walk = IsWalk-read c.each_child.invariant.walk c.each_child-test.true c.next_sibling-child.ensures;
  rest =
      omega (arith, chain-count c.each_child.invariant.walk c.each_child-test.true c.next_sibling-child.ensures);
}
