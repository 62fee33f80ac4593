use Rattle.std.proofs.Common.{◌≡◌, ◌≤◌, length, map, take}
use Rattle.std.specs.Prelude.{slice_index, vec_capacity}
use Rattle.cost_tree.proofs.ends.costs_at_into.Given as goal

abbrev pub invariant-each_list : goal.invariant-each_list
invariant-each_list l = record {
  room : length l.ends ≤ vec_capacity l.costs;
  costs : l.costs.items ≡ map (slice_index l.sums) (take l.list l.ends);
}
