-- Lists that share their fronts, as nodes keep them: node 0 is the empty front, and each edge leads
-- to a node more. A list of numbers ends at a node of a shape, which has a node for each front of
-- its lists: node 0, and one for each edge.
use Rattle.std.specs.Prelude.{◌≡◌, ◌≢◌, ℕ, ◌+◌, ◌^◌, ◌<◌, ◌≤◌, ◌⊎◌, List, [], ◌∷◌, ◌++◌, All, Contains, Some, fold}
use Rattle.std.specs.Prelude.{length, map, slice_get, slice_index_or}
use Rattle.cost_tree.specs.declared.edge.Edge.{Edge}

-- the front that an edge adds: that of the node where it begins, and its number's element
abbrev pub next_front : {X : Type 0} → (ℕ → X) → List (List X) → Edge → List X
next_front element fronts edge = slice_index_or fronts edge.parent [] ++ element edge.text ∷ []

-- the fronts of the nodes, of the elements that numbers stand for: the empty one, and one for each edge
unfoldable pub paths : {X : Type 0} → (ℕ → X) → List Edge → List (List X)
paths element edges = fold (λ fronts edge. fronts ++ next_front element fronts edge ∷ []) ([] ∷ [])
    edges

-- an edge begins at an earlier node, and the front of its own node is that node's and the edge's element
pub record IsStep {X : Type 0} (element : ℕ → X) (fronts : List (List X)) (place : ℕ)
    (edge : Edge) : Type 0 where
  pub earlier : edge.parent ≤ place
  pub front : slice_get fronts (place + 1) ≡ Some (next_front element fronts edge)

-- the fronts are those of node 0 and of one node for each edge, and no two are equal
pub record AreSteps {X : Type 0} (element : ℕ → X) (edges : List Edge)
    (fronts : List (List X)) : Type 0 where
  pub count : length fronts ≡ length edges + 1
  pub root : slice_get fronts 0 ≡ Some []
  pub step : (place : ℕ) (edge : Edge) → slice_get edges place ≡ Some edge
      → IsStep element fronts place edge
  pub distinct : (m n : ℕ) (front : List X) → slice_get fronts m ≡ Some front
      → slice_get fronts n ≡ Some front → m ≡ n

-- the fronts of numbers
abbrev pub numbers_of : List Edge → List (List ℕ)
numbers_of edges = paths (λ number. number) edges

-- the edges lead to fronts of numbers, of which no two are equal
abbrev pub LeadToFronts : List Edge → Type 0
LeadToFronts edges = AreSteps (λ number. number) edges (numbers_of edges)

-- the list that ends at a node
abbrev pub list_at : List Edge → ℕ → List ℕ
list_at edges end = slice_index_or (numbers_of edges) end []

-- the lists that end at these nodes
abbrev pub lists_in : List Edge → List ℕ → List (List ℕ)
lists_in edges ends = map (list_at edges) ends

-- a number of one of the lists
abbrev pub IsUsed : List (List ℕ) → ℕ → Type 0
IsUsed lists number = (list : List ℕ) × Contains lists list × Contains list number

-- the lists end at nodes, and each edge's number is one of a list
pub record IsShape (edges : List Edge) (ends : List ℕ) : Type 0 where
  pub steps : LeadToFronts edges
  pub held : All (λ end. end ≤ length edges) ends
  pub used : (place : ℕ) (edge : Edge) → slice_get edges place ≡ Some edge
      → IsUsed (lists_in edges ends) edge.text
  pub few : length ends < 2 ^ 32

-- the edge that leads to a node: it was there, or it is new and the last one
abbrev pub IsChild : List Edge → List Edge → Edge → ℕ → Type 0
IsChild edges new_edges edge place =
    ((new_edges ≡ edges) × (slice_get edges place ≡ Some edge))
    ⊎ (((k : ℕ) → slice_get edges k ≢ Some edge) × (place ≡ length edges)
    × (new_edges ≡ edges ++ edge ∷ []))

-- an edge leads to the node, which is not node 0
abbrev pub HasEdge : List Edge → ℕ → Type 0
HasEdge edges node = (0 < node) × (node ≤ length edges)

-- the node that goes on from a node by a number: it was there, or it is new and the last one
abbrev pub IsNodeBy : List Edge → List Edge → ℕ → ℕ → ℕ → Type 0
IsNodeBy edges new_edges parent number n = (place : ℕ) × (n ≡ place + 1)
    × IsChild edges new_edges (record { parent = parent; text = number }) place
