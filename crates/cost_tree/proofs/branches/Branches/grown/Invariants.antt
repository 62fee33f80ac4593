use Rattle.std.proofs.Common.{◌*◌, ◌≤◌, take, sum}
use Rattle.std.specs.Prelude.{sum_by}
use Rattle.cost_tree.specs.Building.{IsBuilt}
use Rattle.cost_tree.specs.Growth.{weight}
use Rattle.cost_tree.proofs.Adding.{AreGrown}
use Rattle.cost_tree.proofs.branches.Branches.grown.Given as goal

abbrev pub invariant-each_list : goal.invariant-each_list
invariant-each_list l = record {
  built : IsBuilt l.edges l.branches;
  weight : sum_by weight l.branches.nodes.items ≤ 3 * sum (take l.list l.costs);
  grown : AreGrown l.edges l.ends l.costs l.depth l.branches l.list;
}
