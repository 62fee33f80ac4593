use Rattle.std.proofs.Common.{◌≡◌, map}
use Rattle.std.specs.List.{range_with_len}
use Rattle.stack_trees.specs.declared.direction.Direction.TheVariants.{FromAllocation}
use Rattle.stack_trees.specs.Needed.{needed_list}
use Rattle.stack_trees.proofs.stack_lists.stack_lists.Given as goal

abbrev pub invariant-each_stack : goal.invariant-each_stack
invariant-each_stack l =
    l.lists ≡ map (needed_list FromAllocation l.form.style l.tables l.form.most l.costs) (range_with_len 0 l.stack)
