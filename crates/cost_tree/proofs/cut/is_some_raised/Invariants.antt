use Rattle.std.proofs.Common.{◌≡◌, take}
use Rattle.cost_tree.specs.CutShapes.{raised_counts}
use Rattle.cost_tree.proofs.cut.is_some_raised.Given as goal

-- none of the lists so far is raised
abbrev pub invariant-each_list : goal.invariant-each_list
invariant-each_list l =
    raised_counts l.scale (take l.list l.counts) (take l.list l.lengths) (take l.list l.shared) ≡ take l.list l.counts
