use Rattle.std.proofs.Common.{ℕ, List, length, map, ap, arith, ◌∙◌}
use Rattle.std.proofs.lemmas.List.{take_all}
use Rattle.cost_tree.proofs.Lengthening.{map-more}
use Rattle.cost_tree.proofs.cut.lengths_of.Goals as goal

pub each_list-preserved : goal.each_list-preserved
each_list-preserved c =
    c.in_ok-push.ensures.items
    ∙ map-more length c.args.whole.now c.each_list.list _ c.each_list.lengths.items _ (omega arith)
    c.each_list.invariant
    c.count.ensures.count

pub returns : goal.returns
returns c =
    record {
      lengths = c.each_list.invariant
          ∙ ap (λ (xs : List (List ℕ)). map length xs) (take_all c.each_list.list c.args.whole.now (omega arith));
    }
