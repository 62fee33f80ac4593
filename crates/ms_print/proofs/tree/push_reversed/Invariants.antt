use Rattle.std.proofs.Common.{◌≡◌, ◌++◌, length, reverse}
use Rattle.ms_print.proofs.tree.push_reversed.Given as goal

abbrev pub invariant-each_child : goal.invariant-each_child
invariant-each_child l =
    l.pending.items ++ reverse l.children.items ≡ l.initial.pending.items ++ reverse l.initial.children.items

abbrev pub decreases-each_child : goal.decreases-each_child
decreases-each_child l = length l.children.items
