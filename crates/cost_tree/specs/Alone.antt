-- Lists are cut where they go on alone: no other one begins with what is left of a list that is
-- cut.
use Rattle.std.specs.Prelude.{◌≡◌, ℕ, ◌<◌, true, List, Some, length, slice_get, take}
use Rattle.cost_tree.specs.declared.cut.Cut.{Cut}
use Rattle.cost_tree.specs.CutShapes.{IsCutOf}
use Rattle.cost_tree.specs.Inclusive.{has_front}
use Rattle.cost_tree.specs.Texts.{AreTexts, lists_of}

-- no other list begins with what is left of one that is cut
abbrev pub AreAlone : List (List (List ℕ)) → List ℕ → Type 0
AreAlone lists counts = (n k count : ℕ) (texts other : List (List ℕ))
    → slice_get lists n ≡ Some texts → slice_get counts n ≡ Some count → count < length texts
    → slice_get lists k ≡ Some other → has_front (take count texts) other ≡ true → k ≡ n

-- the numbers of the whole lists are those of texts, and the lists are cut where they go on alone
pub record IsForking (names : List (List ℕ)) (whole : List (List ℕ)) (cut : Cut) : Type 0 where
  pub texts : AreTexts names whole
  pub cut_of : IsCutOf whole cut
  pub alone : AreAlone (lists_of names whole) cut.counts.items
