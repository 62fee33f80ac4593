use Rattle.std.proofs.Common.{ℕ, List, [], sym, subst}
use Rattle.cost_tree.specs.declared.edge.Edge.{Edge}
use Rattle.cost_tree.specs.Shapes.{IsShape}
use Rattle.cost_tree.proofs.ShapeLists.{IsShape-none}
use Rattle.cost_tree.proofs.shape.Shape.new.Goals as goal

pub invariant_of-result : goal.invariant_of-result
invariant_of-result c =
    subst (λ (edges : List Edge). IsShape edges c.new-2.result.items) (sym c.new.ensures.empty)
    (subst (λ (ends : List ℕ). IsShape [] ends) (sym c.new-2.ensures.items) IsShape-none)
