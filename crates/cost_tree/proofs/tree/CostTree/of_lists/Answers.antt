use Rattle.std.proofs.Common.{List, ℕ, length, ap, subst, ◌∙◌, sym}
use Rattle.std.proofs.lemmas.Result.{IfOk-weaker}
use Rattle.cost_tree.specs.Costed.{costed}
use Rattle.cost_tree.specs.IsTreeOf.{IsTreeOf}
use Rattle.cost_tree.proofs.tree.CostTree.of_lists.Goals as goal

pub of_own-requires-clause-as_many : goal.of_own-requires-clause-as_many
of_own-requires-clause-as_many c =
    c.requires.as_many ∙ ap (λ (ls : List (List (List ℕ))). length ls) (sym c.in_ok-lists.ensures.same)

pub returns : goal.returns
returns c = record {
  tree = IfOk-weaker c.of_own.result _ _
      (λ tree has. subst (λ (ls : List (List (List ℕ))). IsTreeOf tree (costed ls c.args.costs.now) c.args.depth)
      c.in_ok-lists.ensures.same has.tree_of)
      c.of_own.ensures.lines;
}
