-- Lemmas on fronts of lists of texts.
use Rattle.std.proofs.Common.{◌≡◌, ◌≢◌, ℕ, ◌+◌, ◌<◌, ◌≤◌, ◌⊎◌, inl, inr, true, false, List, length, take, refl, sym, ap}
use Rattle.std.proofs.Common.{◌∙◌, subst, arith}
use Rattle.std.specs.Bool.{Decides}
use Rattle.std.specs.Str.{bytes_eq}
use Rattle.std.proofs.lemmas.Bool.{true≢false, cases_Bool, cases_lt, false_from_ne_true}
use Rattle.std.proofs.lemmas.Bool.Decides.{same_from_decides}
use Rattle.std.proofs.lemmas.List.{length-take, take-take, take_all}
use Rattle.std.proofs.lemmas.Slice.Eq.{slice_eq-Decides, bytes_eq-Decides}
use Rattle.cost_tree.specs.Inclusive.{has_front, is_front}

-- a list begins with a front where its first texts are the front's
pub has_front-Decides : (front texts : List (List ℕ))
    → Decides (has_front front texts) (front ≡ take (length front) texts)
unfolding has_front
has_front-Decides front texts =
    slice_eq-Decides {E = bytes_eq} bytes_eq-Decides front (take (length front) texts) (has_front front texts) refl

pub is_front-Decides : (front texts : List (List ℕ)) → Decides (is_front front texts) (front ≡ texts)
unfolding is_front
is_front-Decides front texts = slice_eq-Decides {E = bytes_eq} bytes_eq-Decides front texts (is_front front texts) refl

-- two lists of texts are equal or not
pub same_or_not : (front other : List (List ℕ)) → (front ≡ other) ⊎ (front ≢ other)
same_or_not front other =
    elim (cases_Bool (is_front front other)) [
      | inl yes' ↦ inl ((is_front-Decides front other).0 yes')
      | inr no' ↦ inr (λ same. true≢false (sym ((is_front-Decides front other).1 same) ∙ no'))
    ]

-- a front of a front
length-front : (front texts : List (List ℕ)) → has_front front texts ≡ true → length front ≤ length texts
length-front front texts has =
    let same = ap (λ (xs : List (List ℕ)). length xs) ((has_front-Decides front texts).0 has) in
    omega (arith, same, length-take (length front) texts)

-- a front of no more than n texts is one of the first n texts exactly where it is one of all
pub has_front-take : (front texts : List (List ℕ)) (n : ℕ) → length front ≤ n
    → has_front front (take n texts) ≡ has_front front texts
has_front-take front texts n within =
    same_from_decides (has_front front (take n texts)) (has_front front texts) (has_front-Decides front (take n texts)) (
      (λ has. (has_front-Decides front texts).0 has ∙ sym (take-take (length front) n texts within)),
      (λ is. (has_front-Decides front texts).1 (is ∙ take-take (length front) n texts within)),
    )

-- a longer front isn't one of the first n texts
pub has_front-longer : (front texts : List (List ℕ)) (n : ℕ) → n < length front → has_front front (take n texts) ≡ false
has_front-longer front texts n longer =
    false_from_ne_true (has_front front (take n texts)) (λ has.
    let most = length-front front (take n texts) has in
    let count = length-take n texts in
    absurd (omega arith))

-- a list begins with each of its fronts
pub has_front-itself : (texts : List (List ℕ)) → has_front texts texts ≡ true
has_front-itself texts = (has_front-Decides texts texts).1 (sym (take_all (length texts) texts (omega arith)))

-- one text more: the front of all of them is new, and the others are those before
pub has_front-more : (front texts : List (List ℕ)) (j : ℕ) → j < length texts → front ≢ take (j + 1) texts
    → has_front front (take (j + 1) texts) ≡ has_front front (take j texts)
has_front-more front texts j within other =
    elim (cases_lt j (length front)) [
      | inl longer ↦ longer_case longer
      | inr short ↦ has_front-take front texts (j + 1) (omega arith) ∙ sym (has_front-take front texts j short)
    ]
  where
    longer_case : j < length front → has_front front (take (j + 1) texts) ≡ has_front front (take j texts)
    longer_case longer =
        false_from_ne_true (has_front front (take (j + 1) texts)) (λ has.
        let most = length-front front (take (j + 1) texts) has in
        let count = length-take (j + 1) texts in
        let whole = take_all (length front) (take (j + 1) texts) (omega arith) in
        absurd (other ((has_front-Decides front (take (j + 1) texts)).0 has ∙ whole)))
        ∙ sym (has_front-longer front texts j longer)

-- the front that is the list has no other list as its front
pub is_front-has : (front texts : List (List ℕ)) → is_front front texts ≡ true → has_front front texts ≡ true
is_front-has front texts is =
    let P : List (List ℕ) → Type 0 = λ xs. has_front front xs ≡ true in
    subst P ((is_front-Decides front texts).0 is) (has_front-itself front)
