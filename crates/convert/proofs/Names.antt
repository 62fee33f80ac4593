-- Lemmas on lists of texts and the numbers of their texts.
use Rattle.std.proofs.Common.{◌≡◌, ℕ, List, refl, ap}
use Rattle.std.specs.Prelude.{All}
use Rattle.std.specs.Str.{bytes_eq}
use Rattle.std.proofs.lemmas.Bool.Decides.{same_from_decides}
use Rattle.std.proofs.lemmas.Slice.Eq.{bytes_eq-Decides, slice_eq-Decides}
use Rattle.cost_tree.specs.Inclusive.{is_front}
use Rattle.intern_tables.specs.Distinct.{AreDistinct}
use Rattle.cost_tree.specs.Texts.{IsText, texts_of}
use Rattle.cost_tree.proofs.Laws.{texts-same}

-- so lists of numbers are equal exactly where those of their texts are
pub same_test : (names : List (List ℕ)) (ms ns : List ℕ) → AreDistinct names → All (IsText names) ms
    → All (IsText names) ns → bytes_eq ms ns ≡ is_front (texts_of names ms) (texts_of names ns)
unfolding is_front
same_test names ms ns distinct held_m held_n =
    let texts =
    slice_eq-Decides {E = bytes_eq} bytes_eq-Decides (texts_of names ms) (texts_of names ns)
    (is_front (texts_of names ms) (texts_of names ns)) refl in
    same_from_decides (bytes_eq ms ns) (is_front (texts_of names ms) (texts_of names ns)) (bytes_eq-Decides ms ns)
    ((λ is. texts-same names ms ns distinct held_m held_n (texts.0 is)), (λ same. texts.1 (ap (texts_of names) same)))
