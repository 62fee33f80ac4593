use Rattle.std.proofs.Common.{sym, ◌∙◌, arith}
use Rattle.std.proofs.lemmas.List.Sums.{prefix_len_is}
use Rattle.ht_trace.specs.declared.frame.FrameAt.{FrameAt}
use Rattle.massif_tree.specs.FunctionLists.{is_listed}
use Rattle.massif_tree.proofs.function_lists.listed_front.Goals as goal

pub returns-then-not-is_listed-clause-front : goal.returns-then-not-is_listed-clause-front
returns-then-not-is_listed-clause-front g c = λ texts are.
    sym (prefix_len_is (is_listed c.args.tables.now texts) c.args.frames.now c.each_frame.place _ (omega arith)
    (λ k less. c.each_frame.invariant texts are k _ less)
    (λ within. sym (c.is_listed.ensures.listed texts are) ∙ c.if-not-is_listed.true))

pub returns-clause-front : goal.returns-clause-front
returns-clause-front g c = λ texts are.
    let nowhere : FrameAt = record { instruction = 0; index = 0 } in
    sym (prefix_len_is (is_listed c.args.tables.now texts) c.args.frames.now _ nowhere (omega arith)
    (λ k less. c.each_frame.invariant texts are k nowhere (omega arith))
    (λ within. absurd (omega arith)))
