use Rattle.std.specs.Prelude.{All}
use Rattle.cost_tree.specs.Texts.{IsText}
use Rattle.cost_tree_tests.proofs.tests.forked.numbers_of.Given as goal

abbrev pub invariant-each_text : goal.invariant-each_text
invariant-each_text l = All (IsText l.names) l.numbers.items
