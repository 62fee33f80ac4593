use Rattle.std.proofs.Common.{◌≡◌, map, reverse}
use Rattle.std.specs.List.{range_with_len}
use Rattle.stack_trees.specs.StackTexts.{stack_texts}
use Rattle.stack_trees.proofs.root_lists.push_lists.Given as goal

abbrev pub invariant-each_stack : goal.invariant-each_stack
invariant-each_stack l = l.lists ≡ map (λ n. reverse (stack_texts l.style l.tables n)) (range_with_len 0 l.stack)
