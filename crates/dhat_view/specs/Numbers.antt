-- The numbers of a profile's shown texts are those of names, one for each, and a point's numbers
-- are those of its frames.
use Rattle.std.specs.Prelude.{◌≡◌, ℕ, All, List, [], ◌∷◌, ◌++◌, map, slice_index}
use Rattle.cost_tree.specs.Texts.{IsText, texts_of}
use Rattle.dhat_json.specs.declared.profile.Point.{Point}
use Rattle.dhat_view.specs.declared.texts.ShownTexts.{ShownTexts}

-- the numbers are those of texts, one for each
pub record AreNumbers (names : List (List ℕ)) (numbers : List ℕ) (texts : List (List ℕ)) : Type
    0 where
  pub held : All (IsText names) numbers
  pub texts_are : texts_of names numbers ≡ texts

-- a text and its number came behind the others
abbrev pub AddsText : ShownTexts → ShownTexts → List ℕ → Type 0
AddsText old new text = (texts : List (List ℕ)) → AreNumbers old.names old.numbers.items texts
    → AreNumbers new.names new.numbers.items (texts ++ text ∷ [])

-- the numbers of these frames in a table of numbers
abbrev pub numbers_at : List ℕ → List ℕ → List ℕ
numbers_at table frames = map (λ frame. slice_index table frame) frames

-- for each point the numbers of its frames
abbrev pub numbers_in : List ℕ → List Point → List (List ℕ)
numbers_in table points = map (λ point. numbers_at table point.fs) points

-- the last list has these numbers at its end too
abbrev pub LastGains : List (List ℕ) → List ℕ → List (List ℕ) → Type 0
LastGains old numbers new =
    (earlier : List (List ℕ)) (last : List ℕ) → old ≡ earlier ++ last ∷ []
    → new ≡ earlier ++ (last ++ numbers) ∷ []
