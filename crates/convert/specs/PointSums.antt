-- What is read of a DHAT profile for its folded lines: for each list of texts of its points, the sum
-- of their figures.
use Rattle.std.specs.Prelude.{◌≡◌, ℕ, List, ◌++◌}
use Rattle.cost_tree.specs.Costed.{Costed}
use Rattle.convert.specs.declared.points.PointSums.{PointSums}
use Rattle.convert.specs.AreFolded.{GainsLines}
use Rattle.convert.specs.Folded.{folded_text}
use Rattle.convert.specs.Numbers.{SumsUp}

-- the lists are those of the items, each with the sum of the items that have it
abbrev pub AreSumsOf : List Costed → PointSums → Type 0
AreSumsOf items sums = SumsUp sums.sums items

-- the folded lines of whatever items they are the sums of came to the bytes
abbrev pub GainsFolded : PointSums → List ℕ → List ℕ → Type 0
GainsFolded sums old new = (items : List Costed) → AreSumsOf items sums
    → new ≡ old ++ folded_text items

abbrev pub GainsLinesOf : PointSums → List ℕ → List ℕ → Type 0
GainsLinesOf sums old new = (items : List Costed) → AreSumsOf items sums
    → GainsLines items old new
