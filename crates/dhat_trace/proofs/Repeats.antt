-- A text that comes again changes nothing in a list of first appearances.
use Rattle.std.proofs.Common.{◌≡◌, ℕ, Bool, true, false, not, cond, ◌&&◌, ◌||◌, List, [], ◌∷◌, ◌++◌, filter, refl, ap}
use Rattle.std.proofs.Common.{◌∙◌, sym, subst, true≢false}
use Rattle.std.specs.List.{list_any}
use Rattle.std.specs.Str.{bytes_eq}
use Rattle.std.proofs.lemmas.Bool.{false≢true, false_from_ne_true}
use Rattle.std.proofs.lemmas.Slice.Eq.{bytes_eq-Decides}
use Rattle.intern_tables.specs.WithoutRepeats.{without_repeats}

-- two filters in a row
fused : {X : Type 0} (p q : X → Bool) (xs : List X) → filter q (filter p xs) ≡ filter (λ x. p x && q x) xs
fused p q [] = refl
fused {X} p q (x ∷ xs) = by (p x) (fused p q xs)
  where
    by : (b : Bool) → filter q (filter p xs) ≡ filter (λ y. p y && q y) xs
        → filter q (cond b (x ∷ filter p xs) (filter p xs))
        ≡ cond (b && q x) (x ∷ filter (λ y. p y && q y) xs) (filter (λ y. p y && q y) xs)
    by true rest = ap (λ (ys : List X). cond (q x) (x ∷ ys) ys) rest
    by false rest = rest

-- one that all pass
all_stay : {X : Type 0} (xs : List X) → filter (λ x. true) xs ≡ xs
all_stay [] = refl
all_stay {X} (x ∷ xs) = ap (λ (ys : List X). x ∷ ys) (all_stay xs)

-- whether it is among the others, behind one that it differs from
among : (x text : List ℕ) (xs : List (List ℕ)) (kept : Bool) → bytes_eq x text ≡ false
    → list_any (bytes_eq text) (cond kept (x ∷ xs) xs) ≡ true → list_any (bytes_eq text) xs ≡ true
among x text xs true other seen =
    let differs : bytes_eq text x ≡ false =
    false_from_ne_true (bytes_eq text x)
    (λ same. true≢false (sym ((bytes_eq-Decides x text).1 (sym ((bytes_eq-Decides text x).0 same))) ∙ other)) in
    sym (ap (λ (b : Bool). b || list_any (bytes_eq text) xs) differs) ∙ seen
among x text xs false other seen = seen

-- a text that is left out, or is among those that stay, makes no difference at the end
again : (q : List ℕ → Bool) (came : List (List ℕ)) (text : List ℕ)
    → (q text ≡ true → list_any (bytes_eq text) (filter q (without_repeats bytes_eq came)) ≡ true)
    → filter q (without_repeats bytes_eq (came ++ text ∷ [])) ≡ filter q (without_repeats bytes_eq came)
again q [] text held = by (q text) held
  where
    by : (b : Bool) → (b ≡ true → false ≡ true) → cond {A = List (List ℕ)} b (text ∷ []) [] ≡ []
    by true seen = absurd (false≢true (seen refl))
    by false seen = refl
again q (x ∷ xs) text held =
    let p : List ℕ → Bool = λ y. not (bytes_eq x y) in
    let rest : filter q (filter p (without_repeats bytes_eq (xs ++ text ∷ [])))
    ≡ filter q (filter p (without_repeats bytes_eq xs)) =
    fused p q (without_repeats bytes_eq (xs ++ text ∷ []))
    ∙ (again (λ y. p y && q y) xs text
    (λ passes. subst (λ ys. list_any (bytes_eq text) ys ≡ true) (fused p q (without_repeats bytes_eq xs))
    (by (bytes_eq x text) refl passes))
    ∙ sym (fused p q (without_repeats bytes_eq xs))) in
    ap (λ (ys : List (List ℕ)). cond (q x) (x ∷ ys) ys) rest
  where
    by : (b : Bool) → bytes_eq x text ≡ b → (not b && q text) ≡ true
        → list_any (bytes_eq text) (filter q (filter (λ y. not (bytes_eq x y)) (without_repeats bytes_eq xs))) ≡ true
    by true same passes = absurd (false≢true passes)
    by false other passes =
        among x text (filter q (filter (λ y. not (bytes_eq x y)) (without_repeats bytes_eq xs))) (q x) other
        (held passes)

-- a text of the table that comes again
pub repeated : (table came : List (List ℕ)) (text : List ℕ) → list_any (bytes_eq text) table ≡ true
    → table ≡ without_repeats bytes_eq came
    → table ≡ without_repeats bytes_eq (came ++ text ∷ [])
repeated table came text held is =
    let whole : filter (λ y. true) (without_repeats bytes_eq came) ≡ without_repeats bytes_eq came =
    all_stay (without_repeats bytes_eq came) in
    let seen : list_any (bytes_eq text) (filter (λ y. true) (without_repeats bytes_eq came)) ≡ true =
    subst (λ ys. list_any (bytes_eq text) ys ≡ true) (is ∙ sym whole) held in
    is
    ∙ (sym whole
    ∙ (sym (again (λ y. true) came text (λ passes. seen)) ∙ all_stay (without_repeats bytes_eq (came ++ text ∷ []))))
