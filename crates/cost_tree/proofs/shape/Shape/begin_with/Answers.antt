use Rattle.std.proofs.Common.{ℕ, List, length, sym, ap, subst, arith}
use Rattle.std.proofs.lemmas.List.{length-map}
use Rattle.cost_tree.specs.Shapes.{IsShape, list_at}
use Rattle.cost_tree.proofs.ShapeLists.{IsShape-push}
use Rattle.cost_tree.proofs.shape.Shape.begin_with.Goals as goal

pub invariant_of-self-2 : goal.invariant_of-self-2
invariant_of-self-2 c =
    let edges = c.self.inside.edges.keys in
    let ends = c.self.inside.ends.items in
    let end : ℕ = c.index-end.result.now in
    let seen = ap (λ (lists : List (List ℕ)). length lists) c.self.view_is in
    let count = length-map ends (list_at edges) in
    let within = c.requires.held c.if-caller-eq0.false in
    let held = c.self.invariant.held c.args.caller end (omega arith) in
    let read = c.index-end.ensures in
    subst (λ (after : List ℕ). IsShape edges after) (sym c.in_ok-push.ensures.items)
    (IsShape-push edges ends end c.self.invariant (omega arith) (omega (arith, c.requires.few)))
