use Rattle.std.proofs.Common.{ℕ, List, ◌∷◌, ◌++◌, [], ap, sym, ◌∙◌, arith}
use Rattle.std.proofs.lemmas.List.{take_all}
use Rattle.dhat_view.specs.PointCosts.{point_costs}
use Rattle.dhat_view.proofs.Costs.{costs-count}
use Rattle.dhat_view.proofs.Lists.{take-next}
use Rattle.dhat_view.proofs.sums.figures.Goals as goal

pub each_point-preserved : goal.each_point-preserved
each_point-preserved c =
    let costs : List ℕ = point_costs c.args.key c.args.dhat.now in
    c.in_ok-push.ensures.items
    ∙ ap (λ (figures : List ℕ). figures ++ c.figure_at.result ∷ []) c.each_point.invariant
    ∙ sym (take-next costs c.each_point.place c.figure_at.result c.figure_at.ensures.figure)

pub returns : goal.returns
returns c =
    let costs : List ℕ = point_costs c.args.key c.args.dhat.now in
    let count = costs-count c.args.key c.args.dhat.now in
    c.each_point.invariant ∙ take_all c.each_point.place costs (omega arith)
