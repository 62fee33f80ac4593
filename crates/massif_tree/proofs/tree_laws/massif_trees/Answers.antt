use Rattle.std.proofs.Common.{arith}
use Rattle.cost_tree.proofs.Laws.{inclusive-all, inclusive-within}
use Rattle.massif_tree.proofs.Writable.{right, root-bytes, texts-writable, writable}
use Rattle.massif_tree.proofs.tree_laws.massif_trees.Goals as goal

pub returns-clause-right : goal.returns-clause-right
returns-clause-right c = right

pub returns-clause-root : goal.returns-clause-root
returns-clause-root c = λ options total stacks. root-bytes options total _ stacks (inclusive-all stacks)

pub returns-clause-writable : goal.returns-clause-writable
returns-clause-writable c = λ options total stacks few within texts.
    writable options total stacks (record {
      few = few;
      within = λ front. let least = inclusive-within front stacks in omega arith;
      texts = texts;
    })

pub returns-clause-texts : goal.returns-clause-texts
returns-clause-texts c = texts-writable
