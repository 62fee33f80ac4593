-- The names so far are labels.
use Rattle.std.proofs.Common.{◌≡◌, ◌-◌, ◌≤◌, ◌++◌, length, take}
use Rattle.massif_tree.proofs.forked_tree.add_names.Given as goal

abbrev pub invariant-each_name : goal.invariant-each_name
invariant-each_name l = record {
  within : l.place ≤ length l.names;
  labels : l.made.labels ≡ l.initial.made.labels ++ take l.place l.names;
  lines : l.made.lines ≡ l.initial.made.lines;
}

abbrev pub decreases-each_name : goal.decreases-each_name
decreases-each_name l = length l.names - l.place
