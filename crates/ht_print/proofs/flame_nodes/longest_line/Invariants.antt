use Rattle.std.proofs.Common.{◌≡◌, ◌≤◌, map, take}
use Rattle.std.specs.Prelude.{All}
use Rattle.ht_print.specs.FlameLines.{line_bytes}
use Rattle.ht_print.proofs.flame_nodes.longest_line.Given as goal

abbrev pub invariant-each_node : goal.invariant-each_node
invariant-each_node l = record {
  some : 1 ≤ l.n;
  lengths : l.lengths.items ≡ map line_bytes (take l.n l.tree.fronts);
  bounded : All (λ texts. line_bytes texts ≤ l.longest) (take l.n l.tree.fronts);
}
