use Rattle.std.proofs.Common.{◌≡◌, ◌∙◌, refl, arith}
use Rattle.std.specs.HashMap.{get}
use Rattle.std.proofs.lemmas.Option.{same_Some}
use Rattle.cost_tree.specs.EdgeState.{edge_eq}
use Rattle.cost_tree.proofs.Placing.{edge-new}
use Rattle.cost_tree.proofs.edges.Edges.find.Goals as goal

pub returns-in_err-place-clause-none : goal.returns-in_err-place-clause-none
returns-in_err-place-clause-none c =
    rw c.from_residual.ensures (
    rw (← c.self.view_is) (
    edge-new c.self.inside.edges.items (get edge_eq c.self.inside.places) c.args.edge c.self.invariant
    (rw c.deref.ensures.value at (c.if-is_at.ensures.elsewhere refl))
    (λ place kept at. let none = c.in_err-place.ensures.value ∙ kept in absurd (grind (arith, none)))
    ))

pub returns-then-not-is_at-clause-none : goal.returns-then-not-is_at-clause-none
returns-then-not-is_at-clause-none c =
    rw (← c.self.view_is) (
    edge-new c.self.inside.edges.items (get edge_eq c.self.inside.places) c.args.edge c.self.invariant
    (rw c.deref.ensures.value at (c.if-is_at.ensures.elsewhere refl))
    (λ place kept.
    let same : c.in_ok-place.field-0.now ≡ place = same_Some _ _ (c.in_ok-place.ensures.value ∙ kept) in
    rw same at (rw c.deref-2.ensures.value at (c.if-not-is_at.ensures.elsewhere refl)))
    )
