use Rattle.std.proofs.Common.{ℕ, List, sym, subst, arith}
use Rattle.cost_tree.specs.Shapes.{IsShape}
use Rattle.cost_tree.proofs.ShapeLists.{IsShape-push, as-many-ends}
use Rattle.cost_tree.proofs.shape.Shape.begin.Goals as goal

pub invariant_of-self-2 : goal.invariant_of-self-2
invariant_of-self-2 c =
    let edges = c.self.inside.edges.keys in
    let ends = c.self.inside.ends.items in
    let count = as-many-ends edges ends c.args.self.now c.self.view_is in
    subst (λ (after : List ℕ). IsShape edges after) (sym c.in_ok-push.ensures.items)
    (IsShape-push edges ends 0 c.self.invariant (omega arith) (omega (arith, c.requires.few)))
