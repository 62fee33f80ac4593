use Rattle.std.proofs.Common.{ℕ, List, length, ap, subst, arith}
use Rattle.std.proofs.lemmas.List.{length-map}
use Rattle.std.proofs.lemmas.Result.{IfOk-weaker}
use Rattle.cost_tree.specs.Costed.{costed}
use Rattle.cost_tree.specs.Texts.{texts_of}
use Rattle.cost_tree.specs.TreeLines.{HasLines}
use Rattle.cost_tree.proofs.tree.CostTree.of_costs.Goals as goal

pub of_shape-requires : goal.of_shape-requires
of_shape-requires c =
    let kept = length-map c.fronts.inside.shape (texts_of c.fronts.inside.names) in
    let seen = ap (λ (ls : List (List (List ℕ))). length ls) c.fronts.view_is in
    record { texts = c.fronts.invariant; as_many = omega (arith, c.requires.as_many); bound = c.requires.bound }

pub returns : goal.returns
returns c = record {
  tree = IfOk-weaker c.of_shape.result _ _
      (λ tree has. let moved = subst
      (λ (ls : List (List (List ℕ))). HasLines tree (costed ls c.args.costs.now) c.args.depth) c.fronts.view_is
      has in moved.tree_of)
      c.of_shape.ensures.lines;
  lines = IfOk-weaker c.of_shape.result _ _
      (λ tree has. subst (λ (ls : List (List (List ℕ))). HasLines tree (costed ls c.args.costs.now) c.args.depth)
      c.fronts.view_is has)
      c.of_shape.ensures.lines;
}
