use Rattle.cost_tree.specs.Texts.{AreTexts}
use Rattle.cost_tree_tests.proofs.tests.forked.chains_of.Given as goal

abbrev pub invariant-each_list : goal.invariant-each_list
invariant-each_list l = AreTexts l.names l.chains
