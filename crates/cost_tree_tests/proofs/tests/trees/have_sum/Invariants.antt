use Rattle.std.proofs.Common.{◌≡◌, ◌≤◌, ◌^◌, take, sum}
use Rattle.cost_tree_tests.proofs.tests.trees.have_sum.Given as goal

abbrev pub invariant-loop-cost : goal.invariant-loop-cost
invariant-loop-cost l = record {
  total : l.total ≡ sum (take l.cost-index l.costs);
  most : l.total ≤ 2 ^ 62;
}
