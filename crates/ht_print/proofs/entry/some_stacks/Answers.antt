use Rattle.std.proofs.Common.{ℕ, ◌++◌, List, [], ◌∷◌, cond, sym, ap, ◌∙◌, arith}
use Rattle.std.specs.Prelude.{nat_lt, slice_index}
use Rattle.ht_print.specs.declared.entry.Entry.{Entry}
use Rattle.ht_print.proofs.EntryLists.{entry_at, first-stacks-all, first-stacks-more, first-stacks-none}
use Rattle.ht_print.proofs.entry.some_stacks.Goals as goal

pub each_stack-init : goal.each_stack-init
each_stack-init c = c.new-stacks.ensures.items ∙ sym (first-stacks-none c.args.figures.now)

pub each_stack-preserved : goal.each_stack-preserved
each_stack-preserved c =
    let figure : ℕ = slice_index c.args.figures.now c.each_stack.stack in
    c.in_ok-add_stack.ensures
    ∙ ap (λ (es : List Entry). es ++ cond (nat_lt 0 figure) (entry_at c.args.figures.now c.each_stack.stack ∷ []) [])
    c.each_stack.invariant
    ∙ sym (first-stacks-more c.args.figures.now c.each_stack.stack)

pub returns : goal.returns
returns c =
    record { stacks = c.each_stack.invariant ∙ first-stacks-all c.args.figures.now c.each_stack.stack (omega arith) }
