-- Lemmas on an edge that is sought among the edges, and added where it isn't one of them.
use Rattle.std.proofs.Common.{◌≡◌, ◌≢◌, ℕ, ◌⊎◌, ◌≤◌, inl, inr, true, false, ◌==◌, List, [], ◌∷◌, ◌++◌, length, Option}
use Rattle.std.proofs.Common.{Some, sym, ap, subst, ◌∙◌, arith}
use Rattle.std.specs.Prelude.{slice_get}
use Rattle.std.proofs.lemmas.Bool.{cases_Bool, and_parts, eqb-true}
use Rattle.cost_tree.specs.declared.edge.Edge.{Edge}
use Rattle.cost_tree.specs.EdgeState.{ArePlaced, edge_eq}
use Rattle.cost_tree.proofs.Lists.{get-push_cases}
use Rattle.cost_tree.proofs.Steps.{same_edge}

edge_eq-is : (a b : Edge) → edge_eq a b ≡ true → a ≡ b
edge_eq-is a b same =
    let parts = and_parts (a.parent == b.parent) (a.text == b.text) same in
    same_edge a b (eqb-true a.parent b.parent parts.0) (eqb-true a.text b.text parts.1)

-- edges that differ aren't equal
pub edge_eq-other : (a b : Edge) → a ≢ b → edge_eq a b ≡ false
edge_eq-other a b other =
    elim (cases_Bool (edge_eq a b)) [ inl same ↦ absurd (other (edge_eq-is a b same)) | inr differ ↦ differ ]

-- an edge that stands neither at the place of the node where it begins nor where the index has it is new
pub edge-new :
    (edges : List Edge) (place_of : Edge → Option ℕ) (edge : Edge)
    → ArePlaced edges place_of
    → slice_get edges edge.parent ≢ Some edge
    → ((place : ℕ) → place_of edge ≡ Some place → slice_get edges place ≢ Some edge)
    → (place : ℕ) → slice_get edges place ≢ Some edge
edge-new edges place_of edge are no_next no_other place at =
    elim (are.each place edge at) [
      | inl next ↦ no_next (subst (λ (p : ℕ). slice_get edges p ≡ Some edge) (sym next) at)
      | inr placed ↦ no_other place placed at
    ]

-- an index that has the same of all but an edge that isn't one of them
pub placed-same :
    (edges : List Edge) (before after : Edge → Option ℕ) (edge : Edge)
    → ArePlaced edges before
    → ((place : ℕ) → slice_get edges place ≢ Some edge)
    → ((other : Edge) → edge ≢ other → after other ≡ before other)
    → ArePlaced edges after
placed-same edges before after edge are none same = record {
  each = λ place other at. elim (are.each place other at) [
    | inl next ↦ inl next
    | inr placed ↦ inr
        (same other (λ is. none place (subst (λ (e : Edge). slice_get edges place ≡ Some e) (sym is) at)) ∙ placed)
  ];
  earlier = are.earlier;
}

-- the edges with a new one
pub placed-push :
    (edges : List Edge) (place_of : Edge → Option ℕ) (edge : Edge)
    → ArePlaced edges place_of
    → edge.parent ≤ length edges
    → (edge.parent ≡ length edges) ⊎ (place_of edge ≡ Some (length edges))
    → ArePlaced (edges ++ edge ∷ []) place_of
placed-push edges place_of edge are before here = record {
  each = λ place other at. elim (get-push_cases edges edge place other at) [
    | inl old ↦ are.each place other old
    | inr new ↦ subst (λ (e : Edge). (e.parent ≡ place) ⊎ (place_of e ≡ Some place)) (sym new.1)
        (subst (λ (p : ℕ). (edge.parent ≡ p) ⊎ (place_of edge ≡ Some p)) (sym new.0) here)
  ];
  earlier = λ place other at. elim (get-push_cases edges edge place other at) [
    | inl old ↦ are.earlier place other old
    | inr new ↦ let is = ap (λ (e : Edge). e.parent) new.1 in let here = new.0 in omega arith
  ];
}
