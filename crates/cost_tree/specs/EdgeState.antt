-- What contracts see of the edges of a shape: their list. Each begins at an earlier node, which is
-- the one right before its own, or an index has the edge's place.
use Rattle.std.specs.Prelude.{◌≡◌, ℕ, ◌==◌, ◌≤◌, ◌&&◌, ◌⊎◌, Bool, List, Option, Some, slice_get, ◌≢◌}
use Rattle.cost_tree.specs.declared.edge.Edge.{Edge}

-- the edges in the order in which they came
pub record EdgeState : Type 0 where
  pub keys : List Edge

-- whether two edges are equal
abbrev pub edge_eq : Edge → Edge → Bool
edge_eq a b = a.parent == b.parent && a.text == b.text

-- each edge begins at an earlier node: at the one right before its own, or it has its place in an index
pub record ArePlaced (edges : List Edge) (place_of : Edge → Option ℕ) : Type 0 where
  pub each : (place : ℕ) (edge : Edge) → slice_get edges place ≡ Some edge
      → (edge.parent ≡ place) ⊎ (place_of edge ≡ Some place)
  pub earlier : (place : ℕ) (edge : Edge) → slice_get edges place ≡ Some edge
      → edge.parent ≤ place

-- each other edge has the same place in an index
abbrev pub KeepsOthers : Edge → (Edge → Option ℕ) → (Edge → Option ℕ) → Type 0
KeepsOthers edge old new = (other : Edge) → edge ≢ other → new other ≡ old other
