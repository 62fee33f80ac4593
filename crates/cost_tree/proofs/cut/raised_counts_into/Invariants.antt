use Rattle.std.proofs.Common.{◌≡◌, take}
use Rattle.cost_tree.specs.CutShapes.{raised_counts}
use Rattle.cost_tree.proofs.cut.raised_counts_into.Given as goal

abbrev pub invariant-each_list : goal.invariant-each_list
invariant-each_list l =
    l.more.items ≡ raised_counts l.scale (take l.list l.counts) (take l.list l.lengths) (take l.list l.shared)
