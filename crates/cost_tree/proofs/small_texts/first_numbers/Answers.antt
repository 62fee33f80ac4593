use Rattle.std.proofs.Common.{ℕ, List, map, ap, arith, ◌∙◌}
use Rattle.std.proofs.lemmas.List.{take_all}
use Rattle.cost_tree.specs.SmallCosts.{first_number}
use Rattle.cost_tree.proofs.Lengthening.{map-more}
use Rattle.cost_tree.proofs.TakingSmall.{first-take}
use Rattle.cost_tree.proofs.small_texts.first_numbers.Goals as goal

pub each_list-preserved : goal.each_list-preserved
each_list-preserved c =
    c.in_ok-push.ensures.items
    ∙ map-more first_number c.args.lists.now c.each_list.list _ c.each_list.firsts.items _ (omega arith)
    c.each_list.invariant
    (c.first_number.ensures
    ∙ ap first_number (c.deref.ensures.value ∙ c.in_ok-list_into.ensures.numbers)
    ∙ first-take _)

pub returns : goal.returns
returns c =
    record {
      firsts = c.each_list.invariant
          ∙ ap (λ (xs : List (List ℕ)). map first_number xs) (take_all c.each_list.list c.args.lists.now (omega arith));
    }
