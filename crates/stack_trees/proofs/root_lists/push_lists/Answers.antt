use Rattle.std.proofs.Common.{◌≡◌, ℕ, ◌+◌, List, length, map, reverse, ap, ◌∙◌, arith}
use Rattle.std.specs.List.{range_with_len}
use Rattle.stack_trees.specs.StackTexts.{lists_towards, stack_texts}
use Rattle.stack_trees.proofs.Needing.{listed-count, root-more}
use Rattle.stack_trees.proofs.root_lists.push_lists.Goals as goal

pub begin_list-requires : goal.begin_list-requires
begin_list-requires c =
    let list : ℕ → List (List ℕ) = λ n. reverse (stack_texts c.args.style c.args.tables.now n) in
    let count = listed-count list c.each_stack.stack c.each_stack.lists c.each_stack.invariant in
    record { held = omega arith; few = omega arith; before = count }

pub each_stack-preserved : goal.each_stack-preserved
each_stack-preserved c =
    root-more c.args.style c.args.tables.now c.each_stack.stack c.begin_list.new.frames.items c.each_stack.lists
    c.begin_list.new.lists c.push_turned.new.lists c.each_stack.invariant c.in_ok-begin_list.ensures.begun
    c.in_ok-push_turned.ensures.gained

pub returns-clause-lists : goal.returns-clause-lists
unfolding lists_towards
returns-clause-lists c =
    let list : ℕ → List (List ℕ) = λ n. reverse (stack_texts c.args.style c.args.tables.now n) in
    let last : c.each_stack.stack ≡ length c.args.tables.now.nodes + 1 = omega arith in
    c.each_stack.invariant ∙ ap (λ (k : ℕ). map list (range_with_len 0 k)) last

pub returns-clause-count : goal.returns-clause-count
returns-clause-count c =
    let list : ℕ → List (List ℕ) = λ n. reverse (stack_texts c.args.style c.args.tables.now n) in
    let count = listed-count list c.each_stack.stack c.each_stack.lists c.each_stack.invariant in
    omega arith
