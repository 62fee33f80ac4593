use Rattle.std.proofs.Common.{◌≡◌, ℕ, ◌<◌, length, take}
use Rattle.std.specs.Prelude.{slice_index}
use Rattle.cost_tree.specs.CutShapes.{ended_cost}
use Rattle.cost_tree.proofs.ends.ended_costs_into.Given as goal

-- the sums are those of the lists so far
abbrev pub invariant-each_list : goal.invariant-each_list
invariant-each_list l = record {
  count : length l.sums.items ≡ l.nodes;
  sums : (node : ℕ) → node < l.nodes
      → slice_index l.sums.items node ≡ ended_cost (take l.list l.ends) (take l.list l.costs) node;
}
