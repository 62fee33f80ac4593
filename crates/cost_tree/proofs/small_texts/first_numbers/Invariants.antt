use Rattle.std.proofs.Common.{◌≡◌, map, take}
use Rattle.cost_tree.specs.SmallCosts.{first_number}
use Rattle.cost_tree.proofs.small_texts.first_numbers.Given as goal

abbrev pub invariant-each_list : goal.invariant-each_list
invariant-each_list l = l.firsts.items ≡ map first_number (take l.list l.lists)
