use Rattle.std.proofs.Common.{◌≡◌, ◌++◌, length, map, reverse}
use Rattle.cost_tree.specs.Pendings.{pending_child}
use Rattle.cost_tree.proofs.lines.push_kept.Given as goal

abbrev pub invariant-each_child : goal.invariant-each_child
invariant-each_child l =
    l.pending.items ++ reverse (map (pending_child l.level) l.kept.items)
    ≡ l.initial.pending.items ++ reverse (map (pending_child l.level) l.initial.kept.items)

abbrev pub decreases-each_child : goal.decreases-each_child
decreases-each_child l = length l.kept.items
