-- The texts of lists that are kept as numbers, and the fronts of nodes that are kept as edges.
use Rattle.std.specs.Prelude.{◌≡◌, ℕ, ◌≤◌, List, [], All, Some, length, map, slice_get, unwrap_or}
use Rattle.intern_tables.specs.Distinct.{AreDistinct}
use Rattle.intern_tables.specs.Numbers.{name_at}
use Rattle.cost_tree.specs.declared.edge.Edge.{Edge}
use Rattle.cost_tree.specs.Shapes.{paths}

-- the text with the number
unfoldable pub text_of : List (List ℕ) → ℕ → List ℕ
text_of names number = unwrap_or (name_at names number) []

-- a number of a text
abbrev pub IsText : List (List ℕ) → ℕ → Type 0
IsText names number = (1 ≤ number) × (number ≤ length names)

-- the texts with these numbers
abbrev pub texts_of : List (List ℕ) → List ℕ → List (List ℕ)
texts_of names numbers = map (text_of names) numbers

-- the lists of texts that lists of numbers stand for
abbrev pub lists_of : List (List ℕ) → List (List ℕ) → List (List (List ℕ))
lists_of names lists = map (texts_of names) lists

-- each number of a list is one of a text
abbrev pub AreTexts : List (List ℕ) → List (List ℕ) → Type 0
AreTexts names lists = All (All (IsText names)) lists

-- the fronts of the nodes
abbrev pub fronts_of : List (List ℕ) → List Edge → List (List (List ℕ))
fronts_of names edges = paths (text_of names) edges

-- no two names are equal, and each edge has one of them
pub record AreNames (names : List (List ℕ)) (edges : List Edge) : Type 0 where
  pub distinct : AreDistinct names
  pub texts : (place : ℕ) (edge : Edge) → slice_get edges place ≡ Some edge → IsText names edge.text
