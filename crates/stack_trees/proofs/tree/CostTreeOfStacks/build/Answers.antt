use Rattle.std.proofs.Common.{ℕ, List, sym, ◌∙◌, subst}
use Rattle.std.proofs.lemmas.Result.{IfOk-weaker}
use Rattle.cost_tree.specs.Costed.{costed}
use Rattle.cost_tree.specs.IsTreeOf.{IsTreeOf}
use Rattle.stack_trees.specs.StackTexts.{stacks_towards}
use Rattle.stack_trees.proofs.tree.CostTreeOfStacks.build.Goals as goal

pub returns : goal.returns
returns g c = record {
  tree =
      IfOk-weaker c.of_lists.result _ _
      (λ tree is costs are.
      subst (λ (list : List ℕ). IsTreeOf tree (stacks_towards c.args.direction c.args.style c.args.tables.now list)
      c.args.depth) (c.deref.ensures.value ∙ c.in_ok-costs.ensures.costs costs are)
      (c.in_ok-lists.ensures.lists.tree tree
      (subst (λ (list : List ℕ). IsTreeOf tree (costed c.in_ok-lists.lists list) c.args.depth)
      (c.deref-2.ensures.value ∙ sym c.deref.ensures.value) is)))
      c.of_lists.ensures.tree;
}
