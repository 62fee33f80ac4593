use Rattle.std.proofs.Common.{ℕ, List, sym, ap, ◌∙◌}
use Rattle.std.specs.Prelude.{sum}
use Rattle.std.proofs.lemmas.Result.{IfOk-weaker}
use Rattle.cost_tree.specs.Costed.{costed}
use Rattle.dhat_view.specs.PointFronts.{point_fronts}
use Rattle.massif_tree.specs.MassifTree.{massif_tree}
use Rattle.convert.specs.Converted.{whole_tree}
use Rattle.convert.proofs.converted.end_tree.Goals as goal

pub returns-then-ends_as_at_peak : goal.returns-then-ends_as_at_peak
returns-then-ends_as_at_peak c = record {
  tree = IfOk-weaker c.copy.result _ _
      (λ copy is. is ∙ c.requires.peak
      ∙ ap (λ (costs : List ℕ). massif_tree whole_tree (sum costs) (costed (point_fronts c.args.dhat.now) costs))
      (sym (c.ends_as_at_peak.ensures c.if-ends_as_at_peak.true)))
      c.copy.ensures.lines;
}
