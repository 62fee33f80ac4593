use Rattle.std.proofs.Common.{◌≡◌, ◌≤◌, ℕ, List, length, take}
use Rattle.std.specs.Prelude.{vec_capacity}
use Rattle.cost_tree.specs.Costs.{AreCosts}
use Rattle.cost_tree.proofs.costing.Costing.list_into.Given as goal

abbrev pub invariant-loop-stack : goal.invariant-loop-stack
invariant-loop-stack g l = record {
  room : l.self.stacks ≤ vec_capacity l.costs;
  count : length l.costs.items ≡ l.stack;
  costs : (costs : List ℕ) → AreCosts (goal.F-pre g l.self.cost) (goal.F-post g l.self.cost) l.self.stacks costs
      → l.costs.items ≡ take l.stack costs;
}
