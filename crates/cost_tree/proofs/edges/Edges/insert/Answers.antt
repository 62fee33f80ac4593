use Rattle.std.proofs.Common.{◌≡◌, ◌≢◌, ◌⊎◌, ◌≤◌, ℕ, List, length, Some, sym, subst, arith}
use Rattle.std.specs.Prelude.{slice_get}
use Rattle.std.specs.HashMap.{get}
use Rattle.cost_tree.specs.declared.edge.Edge.{Edge}
use Rattle.cost_tree.specs.EdgeState.{ArePlaced, edge_eq}
use Rattle.cost_tree.proofs.Placing.{placed-push, placed-same}
use Rattle.cost_tree.proofs.edges.Edges.insert.Goals as goal

pub invariant_of-self-2 : goal.invariant_of-self-2
invariant_of-self-2 c =
    let edges = c.self.inside.edges.items in
    let none : (place : ℕ) → slice_get edges place ≢ Some c.args.edge =
    rw (← c.self.view_is) at c.in_default.ensures.none in
    let count : c.len-place.result ≡ length edges = omega arith in
    let before : c.args.edge.parent ≤ length edges = rw (← c.self.view_is) at c.requires.earlier in
    let here : (c.args.edge.parent ≡ length edges) ⊎ (get edge_eq c.note.new.places c.args.edge ≡ Some (length edges)) =
    subst (λ (n : ℕ). (c.args.edge.parent ≡ n) ⊎ (get edge_eq c.note.new.places c.args.edge ≡ Some n)) count
    c.in_ok-note.ensures.noted in
    subst (λ (items : List Edge). ArePlaced items (get edge_eq c.note.new.places)) (sym c.in_ok-push.ensures.items)
    (placed-push edges (get edge_eq c.note.new.places) c.args.edge
    (placed-same edges (get edge_eq c.self.inside.places) (get edge_eq c.note.new.places) c.args.edge c.self.invariant
    none c.in_ok-note.ensures.others)
    before here)
