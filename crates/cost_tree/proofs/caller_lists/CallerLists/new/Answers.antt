use Rattle.std.proofs.Common.{List, sym, ap, subst}
use Rattle.cost_tree.specs.declared.list_step.ListStep.{ListStep}
use Rattle.cost_tree.specs.Texts.{lists_of}
use Rattle.cost_tree.specs.Told.{AreTold, told}
use Rattle.cost_tree.proofs.Telling.{AreTold-none}
use Rattle.cost_tree.proofs.caller_lists.CallerLists.new.Goals as goal

pub invariant_of-result : goal.invariant_of-result
invariant_of-result c =
    subst (λ (steps : List ListStep). AreTold c.new.result steps) (sym c.new-2.ensures.items)
    (AreTold-none c.new.result)

pub returns : goal.returns
unfolding told
returns c = record { empty = ap (λ (steps : List ListStep). lists_of c.new.result (told steps)) c.new-2.ensures.items }
