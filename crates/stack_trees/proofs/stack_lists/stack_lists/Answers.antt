use Rattle.std.proofs.Common.{arith}
use Rattle.cost_tree.proofs.Laws.{listed-more}
use Rattle.stack_trees.specs.declared.direction.Direction.TheVariants.{FromAllocation}
use Rattle.stack_trees.specs.Needed.{needed_list}
use Rattle.stack_trees.proofs.Needing.{listed-count, needed_lists-all}
use Rattle.stack_trees.proofs.stack_lists.stack_lists.Goals as goal

pub add_stack-requires-clause-few : goal.add_stack-requires-clause-few
add_stack-requires-clause-few c =
    let list = needed_list FromAllocation c.args.form.style c.args.tables.now c.args.form.most c.args.costs.now in
    let count = listed-count list c.each_stack.stack c.each_stack.lists c.each_stack.invariant in
    omega arith

pub each_stack-preserved : goal.each_stack-preserved
each_stack-preserved c =
    let list = needed_list FromAllocation c.args.form.style c.args.tables.now c.args.form.most c.args.costs.now in
    listed-more list c.each_stack.stack c.each_stack.lists c.add_stack.new.lists c.each_stack.invariant
    c.in_ok-add_stack.ensures.added

pub returns : goal.returns
returns c =
    let list = needed_list FromAllocation c.args.form.style c.args.tables.now c.args.form.most c.args.costs.now in
    record {
      lists =
          needed_lists-all FromAllocation c.args.form.style c.args.tables.now c.args.form.most c.args.costs.now
          c.each_stack.stack c.each_stack.lists (omega arith) c.each_stack.invariant;
    }
