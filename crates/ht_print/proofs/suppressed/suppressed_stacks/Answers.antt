use Rattle.std.proofs.Common.{Bool, List, [], ◌∷◌, ◌++◌, map, rules, sym, ap, ◌∙◌, arith}
use Rattle.std.specs.List.{range_with_len}
use Rattle.std.proofs.lemmas.List.FromFn.{map-range_with_len_more}
use Rattle.ht_print.specs.Suppressed.{is_suppressed}
use Rattle.ht_print.proofs.Searches.{none-suppressed}
use Rattle.ht_print.proofs.suppressed.suppressed_stacks.Goals as goal

pub returns-then-suppressions-eq0 : goal.returns-then-suppressions-eq0
returns-then-suppressions-eq0 c =
    c.in_ok-vec.ensures.items_if_clones_equal (λ answer clone. search rules)
    ∙ none-suppressed c.args.tables.now _ (sym c.suppressions.ensures.count ∙ c.if-suppressions-eq0.true)
    c.stacks-count.ensures.count

pub each_stack-preserved : goal.each_stack-preserved
each_stack-preserved c =
    c.in_ok-push.ensures.items
    ∙ ap (λ (items : List Bool). items ++ c.is_suppressed.result ∷ []) c.each_stack.invariant
    ∙ ap (λ (answer : Bool). map (is_suppressed c.args.tables.now) (range_with_len 0 c.each_stack.stack) ++ answer ∷ [])
    c.is_suppressed.ensures
    ∙ sym (map-range_with_len_more (is_suppressed c.args.tables.now) 0 c.each_stack.stack c.each_stack.stack
    (omega arith))
