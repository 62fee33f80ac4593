use Rattle.std.proofs.Common.{◌≡◌, take}
use Rattle.cost_tree.specs.Cuts.{cut_lists}
use Rattle.cost_tree.proofs.cut.cut_shape.Given as goal

abbrev pub invariant-each_list : goal.invariant-each_list
invariant-each_list l = l.shape ≡ cut_lists (take l.list l.counts) (take l.list l.whole)
