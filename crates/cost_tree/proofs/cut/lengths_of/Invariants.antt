use Rattle.std.proofs.Common.{◌≡◌, length, map, take}
use Rattle.cost_tree.proofs.cut.lengths_of.Given as goal

abbrev pub invariant-each_list : goal.invariant-each_list
invariant-each_list l = l.lengths.items ≡ map length (take l.list l.whole)
