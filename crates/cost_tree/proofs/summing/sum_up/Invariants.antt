use Rattle.std.proofs.Common.{◌≡◌, ℕ, ◌+◌, ◌^◌, ◌<◌, ◌≤◌, length, take}
use Rattle.std.specs.Prelude.{sum_by}
use Rattle.cost_tree.specs.Growth.{weight}
use Rattle.cost_tree.specs.Summed.{AreSumsFrom}
use Rattle.cost_tree.proofs.summing.sum_up.Given as goal

abbrev pub invariant-each_node : goal.invariant-each_node
invariant-each_node l = record {
  count : length l.nodes.items ≡ length l.initial.nodes.items;
  most : l.done ≤ length l.initial.nodes.items;
  sums : (m : ℕ) → m + l.done ≡ length l.initial.nodes.items + 1 → AreSumsFrom l.initial.nodes.items l.nodes.items m;
  left : (m : ℕ) → m + l.done ≡ length l.initial.nodes.items + 1 → sum_by weight (take m l.nodes.items) < 2 ^ 64;
}
