-- Lemmas on texts and their numbers.
use Rattle.std.proofs.Common.{◌≡◌, ℕ, zero, suc, ◌-◌, inl, inr, ◌==◌, Bool, false, cond, List, [], get_or, None, sym}
use Rattle.std.proofs.Common.{ap, ◌∙◌, arith}
use Rattle.std.specs.Prelude.{slice_get, unwrap_or}
use Rattle.std.proofs.lemmas.Bool.{cases_order, ne_eqb}
use Rattle.std.proofs.lemmas.Option.{unwrap_or-slice_get}
use Rattle.intern_tables.specs.Distinct.{AreDistinct}
use Rattle.cost_tree.specs.Texts.{text_of, IsText}

-- the text with a number stands at the place before
text_of-place : (names : List (List ℕ)) (place : ℕ) → text_of names (suc place) ≡ get_or names place []
unfolding text_of
text_of-place names place =
    let back : suc place - 1 ≡ place = omega arith in
    let above : (suc place == 0) ≡ false = ne_eqb (suc place) 0 (λ none. absurd (omega arith)) in
    ap (λ (b : Bool). unwrap_or (cond b None (slice_get names (suc place - 1))) []) above
    ∙ ap (λ (k : ℕ). unwrap_or (slice_get names k) []) back
    ∙ unwrap_or-slice_get names place []

-- two numbers with the same text are one
pub same_number : (names : List (List ℕ)) (a b : ℕ) → AreDistinct names → IsText names a → IsText names b
    → text_of names a ≡ text_of names b → a ≡ b
same_number names zero b distinct is_a is_b same = absurd (omega arith)
same_number names (suc a) zero distinct is_a is_b same = absurd (omega arith)
same_number names (suc a) (suc b) distinct is_a is_b same =
    let texts = sym (text_of-place names a) ∙ same ∙ text_of-place names b in
    elim (cases_order a b) [
      | inl e ↦ ap (λ (n : ℕ). suc n) e
      | inr order ↦ elim order [
        | inl below ↦ absurd (distinct a b [] below (omega arith) texts)
        | inr above ↦ absurd (distinct b a [] above (omega arith) (sym texts))
      ]
    ]
