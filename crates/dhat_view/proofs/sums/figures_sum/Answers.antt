use Rattle.std.proofs.Common.{◌∙◌, arith}
use Rattle.dhat_view.specs.PointCosts.{point_costs}
use Rattle.dhat_view.proofs.Costs.{costs-count, sum-all, sum-next}
use Rattle.dhat_view.proofs.sums.figures_sum.Goals as goal

pub each_point-preserved : goal.each_point-preserved
each_point-preserved c =
    let more =
    sum-next (point_costs c.args.key c.args.dhat.now) c.each_point.place c.figure_at.result
    c.figure_at.ensures.figure in
    let figure = c.from-total.ensures in
    let small = c.figure_at.type_inv in
    let total = c.each_point.invariant.total in
    let few = c.each_point.invariant.few in
    record { total = omega arith; few = omega arith }

pub returns-clause-sum : goal.returns-clause-sum
returns-clause-sum c =
    let count = costs-count c.args.key c.args.dhat.now in
    c.each_point.invariant.total ∙ sum-all (point_costs c.args.key c.args.dhat.now) c.each_point.place (omega arith)
