-- What contracts see of lists that are cut, and what is true of them: the whole lists, and the cut
-- ones.
use Rattle.std.specs.Prelude.{ℕ, List, ◌≡◌, map}
use Rattle.cost_tree.specs.declared.cut.Cut.{Cut}
use Rattle.cost_tree.specs.CutShapes.{IsCutOf}
use Rattle.cost_tree.specs.SmallCosts.{first_number}
use Rattle.cost_tree.specs.Texts.{AreTexts}
use Rattle.cost_tree.specs.declared.scale.Scale.{Scale}
use Rattle.cost_tree.specs.Costed.{costed}
use Rattle.cost_tree.specs.CostLines.{cost_lines}

-- the whole lists, and those that are cut
pub record CutState : Type 0 where
  pub whole : List (List (List ℕ))
  pub cut : List (List (List ℕ))

-- the numbers of the whole lists are those of texts, of which the first ones are known
pub record IsCutting (names : List (List ℕ)) (whole : List (List ℕ)) (firsts : List ℕ) (cut : Cut) : Type
    0 where
  pub texts : AreTexts names whole
  pub firsts_are : firsts ≡ map first_number whole
  pub cut_of : IsCutOf whole cut

-- with these costs the cut lists have the lines of the whole ones
abbrev pub HasWholeLines : Scale → List ℕ → CutState → Type 0
HasWholeLines scale costs lists = (depth : ℕ) → cost_lines depth scale (costed lists.cut costs)
    ≡ cost_lines depth scale (costed lists.whole costs)
