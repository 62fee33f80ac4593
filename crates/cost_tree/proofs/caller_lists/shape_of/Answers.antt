use Rattle.std.proofs.Common.{ℕ, List, take, take_all, get_or, sym, ap, ◌∙◌, subst, arith}
use Rattle.std.proofs.lemmas.List.{take_more}
use Rattle.std.proofs.lemmas.Option.{slice_get-get_or}
use Rattle.cost_tree.specs.declared.list_step.ListStep.{ListStep}
use Rattle.cost_tree.specs.declared.list_step.ListStep.TheVariants.{Begin}
use Rattle.cost_tree.specs.Told.{MayFollow, after, told}
use Rattle.cost_tree.proofs.Telling.{told-more}
use Rattle.cost_tree.proofs.caller_lists.shape_of.Goals as goal

pub each_step-init : goal.each_step-init
unfolding told
each_step-init c = c.in_ok-shape.ensures.empty

pub follow-requires : goal.follow-requires
follow-requires c =
    let steps : List ListStep = c.args.steps.now in
    let place : ℕ = c.each_step.step-index in
    let step : ListStep = get_or steps place (Begin 0) in
    let are = c.requires.told.1 in
    record {
      may = subst (λ (lists : List (List ℕ)). MayFollow lists step) (sym c.each_step.invariant)
          (are.each place step (slice_get-get_or steps place (Begin 0) (omega arith)));
    }

pub each_step-preserved : goal.each_step-preserved
each_step-preserved c =
    let steps : List ListStep = c.args.steps.now in
    let place : ℕ = c.each_step.step-index in
    let step : ListStep = get_or steps place (Begin 0) in
    c.in_ok-follow.ensures.after
    ∙ ap (λ (lists : List (List ℕ)). after lists step) c.each_step.invariant
    ∙ sym (told-more (take place steps) step)
    ∙ ap (λ (ss : List ListStep). told ss) (sym (take_more steps place (Begin 0) (omega arith)))

pub returns : goal.returns
returns c =
    record {
      lists = c.each_step.invariant
          ∙ ap (λ (ss : List ListStep). told ss) (take_all c.each_step.step-index c.args.steps.now (omega arith));
    }
