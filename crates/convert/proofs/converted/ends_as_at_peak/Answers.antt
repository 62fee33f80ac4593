use Rattle.std.proofs.Common.{ℕ, List, [], ◌∷◌, ◌++◌, take, sym, ap, ◌∙◌, arith}
use Rattle.std.proofs.lemmas.List.{take_all}
use Rattle.cost_tree.proofs.Laws.{take-next}
use Rattle.dhat_json.specs.declared.figure.FigureKey.TheVariants.{Eb, Gb}
use Rattle.dhat_view.specs.PointCosts.{point_costs}
use Rattle.convert.proofs.PointItems.{costs-count}
use Rattle.convert.proofs.converted.ends_as_at_peak.Goals as goal

pub each_point-preserved : goal.each_point-preserved
each_point-preserved c =
    let ends = point_costs Eb c.args.dhat.now in
    let peaks = point_costs Gb c.args.dhat.now in
    let place = c.each_point.place in
    take-next ends place c.figure_at-at_end.result c.figure_at-at_end.ensures.figure
    ∙ ap (λ (xs : List ℕ). xs ++ c.figure_at-at_end.result ∷ []) c.each_point.invariant
    ∙ ap (λ (x : ℕ). take place peaks ++ x ∷ []) c.if-at_end-figure_at.false
    ∙ sym (take-next peaks place c.figure_at.result c.figure_at.ensures.figure)

pub returns : goal.returns
returns c = λ yes.
    let ends = point_costs Eb c.args.dhat.now in
    let peaks = point_costs Gb c.args.dhat.now in
    let at_end = costs-count Eb c.args.dhat.now in
    let at_peak = costs-count Gb c.args.dhat.now in
    sym (take_all c.each_point.place ends (omega arith)) ∙ c.each_point.invariant
    ∙ take_all c.each_point.place peaks (omega arith)
