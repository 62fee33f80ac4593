use Rattle.std.proofs.lemmas.Result.{IfOk-weaker}
use Rattle.stack_trees.proofs.Needing.{StandFor-needed, StandFor-root}
use Rattle.stack_trees.proofs.trace_lists.trace_lists.Goals as goal

pub returns-in-FromAllocation : goal.returns-in-FromAllocation
returns-in-FromAllocation c = record {
  lists = rw c.in-FromAllocation.is (IfOk-weaker c.stack_lists.result _ _
      (StandFor-needed c.args.style c.args.tables.now c.args.costs.now c.args.depth c.requires.as_many)
      c.stack_lists.ensures.lists);
}

pub returns-in-FromRoot : goal.returns-in-FromRoot
returns-in-FromRoot c = record {
  lists = rw c.in-FromRoot.is (IfOk-weaker c.lists_from_root.result _ _
      (StandFor-root c.args.style c.args.tables.now c.args.costs.now c.args.depth c.requires.as_many)
      c.lists_from_root.ensures.lists);
}
