use Rattle.std.proofs.Common.{ℕ, List, [], sym, subst}
use Rattle.cost_tree.specs.declared.edge.Edge.{Edge}
use Rattle.cost_tree.specs.Shapes.{IsShape}
use Rattle.cost_tree.proofs.ShapeLists.{IsShape-none}
use Rattle.cost_tree.proofs.shape.Shape.with_capacity.Goals as goal

pub invariant_of-result : goal.invariant_of-result
invariant_of-result c =
    subst (λ (edges : List Edge). IsShape edges c.in_ok-with_capacity-2.field-0.items)
    (sym c.in_ok-with_capacity.ensures.empty)
    (subst (λ (ends : List ℕ). IsShape [] ends) (sym c.in_ok-with_capacity-2.ensures.items) IsShape-none)
