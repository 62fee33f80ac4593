use Rattle.std.proofs.Common.{ℕ, ◌^◌, ◌≤◌, List, length, sum, sym, ap, subst, ◌∙◌}
use Rattle.std.proofs.lemmas.List.{length-map}
use Rattle.std.proofs.lemmas.Result.{IfOk-weaker}
use Rattle.cost_tree.specs.Costed.{costed}
use Rattle.cost_tree.specs.CutState.{CutState}
use Rattle.cost_tree.specs.Texts.{AreTexts, texts_of}
use Rattle.cost_tree.specs.TreeLines.{HasLines}
use Rattle.cost_tree.proofs.Lengthening.{cut-named}
use Rattle.cost_tree.proofs.tree.CostTree.of_cut.Goals as goal

pub of_shape-requires : goal.of_shape-requires
of_shape-requires c =
    let names = c.fronts.inside.names in
    let cut = c.fronts.inside.cut in
    let is = c.deref.ensures.value in
    record {
      texts =
          subst (AreTexts names) (sym c.fronts.invariant.cut_of.lists)
          (cut-named names cut.counts.items c.fronts.inside.whole c.fronts.invariant.texts);
      as_many =
          ap (λ (cs : List ℕ). length cs) is ∙ c.requires.as_many
          ∙ sym (ap (λ (s : CutState). length s.cut) c.fronts.view_is) ∙ length-map cut.shape (texts_of names);
      bound = subst (λ (cs : List ℕ). sum cs ≤ 2 ^ 62) (sym is) c.requires.bound;
    }

pub returns : goal.returns
returns c = record {
  lines = IfOk-weaker c.of_shape.result _ _
      (λ tree has.
      subst (λ (cs : List ℕ). HasLines tree (costed c.args.fronts.now.cut cs) c.args.depth) c.deref.ensures.value
      (subst (λ (ls : List (List (List ℕ))). HasLines tree (costed ls c.deref.result.now) c.args.depth)
      (ap (λ (s : CutState). s.cut) c.fronts.view_is) has))
      c.of_shape.ensures.lines;
}
