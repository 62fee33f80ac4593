-- Lists that are cut where no line of a tree needs more of them. So many first texts of a stack are
-- enough for the lines of fronts of at most so many texts where they are all, or more than these
-- have, or where there is one and what the stacks cost that begin with them is too small for a
-- line.
use Rattle.std.specs.Prelude.{◌≡◌, ℕ, ◌<◌, ◌⊎◌, true, List, [], ◌∷◌, Some, length, slice_get, take}
use Rattle.cost_tree.specs.declared.scale.Scale.{Scale}
use Rattle.cost_tree.specs.Costed.{Costed, costed}
use Rattle.cost_tree.specs.CostLines.{cost_of, is_small}
use Rattle.cost_tree.specs.declared.cut.Cut.{Cut}
use Rattle.cost_tree.specs.Texts.{AreTexts, lists_of}
use Rattle.intern_tables.specs.Distinct.{AreDistinct}

-- the first elements of each list, as many as stand beside it
unfoldable pub cut_lists : {X : Type 0} → List ℕ → List (List X) → List (List X)
cut_lists [] lists = []
cut_lists (count ∷ counts) [] = []
cut_lists (count ∷ counts) (list ∷ lists) = take count list ∷ cut_lists counts lists

-- so many first texts of a stack are enough for the lines of fronts of at most `depth` texts: they
-- are all, or more than these have, or what the stacks cost that begin with them is too small for a
-- line
pub record IsEnough (depth : ℕ) (scale : Scale) (stacks : List Costed) (texts : List (List ℕ))
    (count : ℕ) : Type 0 where
  pub some : count < length texts → 0 < count
  pub rest : count < length texts
      → (depth < count) ⊎ (is_small scale (cost_of stacks (take count texts)) ≡ true)

-- so many of each list
pub record AreEnough (depth : ℕ) (scale : Scale) (stacks : List Costed)
    (lists : List (List (List ℕ))) (counts : List ℕ) : Type 0 where
  pub count : length counts ≡ length lists
  pub each : (k count : ℕ) (texts : List (List ℕ)) → slice_get lists k ≡ Some texts
      → slice_get counts k ≡ Some count → IsEnough depth scale stacks texts count

-- so many of each list with these costs, whichever texts the numbers are those of, and however long
-- fronts may be
abbrev pub AreEnoughFor : Scale → List (List ℕ) → List ℕ → Cut → Type 0
AreEnoughFor scale whole costs cut = (names : List (List ℕ)) (depth : ℕ) → AreDistinct names
    → AreTexts names whole
    → AreEnough depth scale (costed (lists_of names whole) costs) (lists_of names whole)
    cut.counts.items
