use Rattle.std.proofs.Common.{◌-◌, ◌^◌, ◌<◌, ◌≤◌}
use Rattle.ms_print.specs.Ends.{children_at, trees_at}
use Rattle.ms_print.specs.TreesOf.{first_trees}
use Rattle.ms_print.proofs.SplitLemmas.{IsSplit}
use Rattle.ms_print.proofs.TreesOfLemmas.{IsPassed}
use Rattle.ms_print.proofs.children.split_children.Given as goal

abbrev pub invariant-each_child : goal.invariant-each_child
invariant-each_child l = record {
  passed : IsPassed l.view.tree.now l.place l.counter l.child;
  few : l.gathered.places ≤ l.counter;
  fits : l.gathered.bytes < 2 ^ 64;
  split : IsSplit l.view.scale l.view.tree.now l.indent (children_at l.view.tree.now l.place)
      (first_trees (l.end - l.counter) (trees_at l.view.tree.now l.child)) l.gathered.places l.gathered.bytes
      l.children.items;
}
