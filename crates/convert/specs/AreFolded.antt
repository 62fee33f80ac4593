-- What folded lines are: for each list the sum of the items with that list. For each list whose
-- items' sum isn't 0 one line has that sum, and no other list has a line.
use Rattle.std.specs.Prelude.{◌≡◌, ℕ, ◌<◌, List, ◌++◌, Some, slice_get}
use Rattle.cost_tree.specs.Costed.{Costed}
use Rattle.cost_tree.specs.Inclusive.{own}
use Rattle.convert.specs.Folded.{lines_text}

-- each line has the sum of the items with its list, which isn't 0; each list whose items' sum isn't
-- 0 has a line, and no two lines have one list
pub record AreFolded (items lines : List Costed) : Type 0 where
  pub sum : (n : ℕ) (line : Costed) → slice_get lines n ≡ Some line
      → line.cost ≡ own line.texts items
  pub more_than_0 : (n : ℕ) (line : Costed) → slice_get lines n ≡ Some line → 0 < line.cost
  pub all : (list : List (List ℕ)) → 0 < own list items
      → (n : ℕ) × (slice_get lines n ≡ Some (record { texts = list; cost = own list items }))
  pub once : (m n : ℕ) (line other : Costed) → slice_get lines m ≡ Some line
      → slice_get lines n ≡ Some other → line.texts ≡ other.texts → m ≡ n

-- lines of the items came to the bytes
abbrev pub GainsLines : List Costed → List ℕ → List ℕ → Type 0
GainsLines items old new = (lines : List Costed) × AreFolded items lines
    × (new ≡ old ++ lines_text lines)
