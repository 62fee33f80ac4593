-- What the crates above may cite: a list without its repeats, as it grows. Elements are the same
-- where their keys are equal.
use Rattle.std.proofs.Common.{◌≡◌, Bool, true, false, not, cond, ◌||◌, List, [], ◌∷◌, ◌++◌, filter, refl, sym, ap, ◌∙◌}
use Rattle.std.proofs.Common.{true≢false, append-nil}
use Rattle.std.specs.Bool.{Decides}
use Rattle.std.specs.List.{list_any}
use Rattle.std.proofs.lemmas.Bool.{cond-true, cond-false, false_from_ne_true}
use Rattle.std.proofs.lemmas.List.Elements.{filter-append}
use Rattle.intern_tables.specs.WithoutRepeats.{without_repeats}

-- what is left of a list of the elements that differ from x has one that is the same as y exactly where the list has
any-filter :
    {X K : Type 0} (key : X → K) (same : X → X → Bool) → ((a b : X) → Decides (same a b) (key a ≡ key b)) → (x y : X)
    → same y x ≡ false
    → (xs : List X) → list_any (same y) (filter (λ z. not (same x z)) xs) ≡ list_any (same y) xs
any-filter key same decides x y apart [] = refl
any-filter {X} {K} key same decides x y apart (z ∷ zs) = by (any-filter key same decides x y apart zs) (same x z) refl
  where
    by : list_any (same y) (filter (λ z. not (same x z)) zs) ≡ list_any (same y) zs → (b : Bool) → same x z ≡ b
        → list_any (same y) (cond (not b) (z ∷ filter (λ z. not (same x z)) zs) (filter (λ z. not (same x z)) zs))
        ≡ (same y z || list_any (same y) zs)
    by rest true e =
        let other : same y z ≡ false =
        false_from_ne_true (same y z)
        (λ t. true≢false (sym ((decides y x).1 ((decides y z).0 t ∙ sym ((decides x z).0 e))) ∙ apart)) in
        rest ∙ sym (ap (λ (b : Bool). b || list_any (same y) zs) other)
    by rest false e = ap (λ (b : Bool). same y z || b) rest

-- one more element is appended where it isn't there yet
pub repeats-push :
    {X K : Type 0} (key : X → K) (same : X → X → Bool) → ((a b : X) → Decides (same a b) (key a ≡ key b))
    → (xs : List X) (y : X)
    → without_repeats same (xs ++ y ∷ [])
    ≡ cond (list_any (same y) (without_repeats same xs)) (without_repeats same xs) (without_repeats same xs ++ y ∷ [])
repeats-push key same decides [] y = refl
repeats-push {X} {K} key same decides (x ∷ xs) y =
    ap (λ (zs : List X). x ∷ filter (λ z. not (same x z)) zs) (repeats-push key same decides xs y)
    ∙ by (same y x) (list_any (same y) (without_repeats same xs)) refl refl
  where
    left_out : same x y ≡ true
        → filter (λ z. not (same x z)) (without_repeats same xs ++ y ∷ [])
        ≡ filter (λ z. not (same x z)) (without_repeats same xs)
    left_out e =
        filter-append (λ z. not (same x z)) (without_repeats same xs) (y ∷ [])
        ∙ ap (λ (b : Bool). filter (λ z. not (same x z)) (without_repeats same xs) ++ cond (not b) (y ∷ []) []) e
        ∙ append-nil (filter (λ z. not (same x z)) (without_repeats same xs))

    kept : same x y ≡ false
        → filter (λ z. not (same x z)) (without_repeats same xs ++ y ∷ [])
        ≡ filter (λ z. not (same x z)) (without_repeats same xs) ++ y ∷ []
    kept e =
        filter-append (λ z. not (same x z)) (without_repeats same xs) (y ∷ [])
        ∙ ap (λ (b : Bool). filter (λ z. not (same x z)) (without_repeats same xs) ++ cond (not b) (y ∷ []) []) e

    flip_true : same y x ≡ true → same x y ≡ true
    flip_true e = (decides x y).1 (sym ((decides y x).0 e))

    flip_false : same y x ≡ false → same x y ≡ false
    flip_false e = false_from_ne_true (same x y) (λ t. true≢false (sym ((decides y x).1 (sym ((decides x y).0 t))) ∙ e))

    by :
        (b c : Bool) → same y x ≡ b → list_any (same y) (without_repeats same xs) ≡ c
        → x ∷ filter (λ z. not (same x z)) (cond c (without_repeats same xs) (without_repeats same xs ++ y ∷ []))
        ≡ cond (b || list_any (same y) (filter (λ z. not (same x z)) (without_repeats same xs)))
        (x ∷ filter (λ z. not (same x z)) (without_repeats same xs))
        (x ∷ (filter (λ z. not (same x z)) (without_repeats same xs) ++ y ∷ []))
    by true true e f = refl
    by true false e f = ap (λ (zs : List X). x ∷ zs) (left_out (flip_true e))
    by false true e f =
        sym (cond-true _ (x ∷ filter (λ z. not (same x z)) (without_repeats same xs))
        (x ∷ (filter (λ z. not (same x z)) (without_repeats same xs) ++ y ∷ []))
        (any-filter key same decides x y e (without_repeats same xs) ∙ f))
    by false false e f =
        ap (λ (zs : List X). x ∷ zs) (kept (flip_false e))
        ∙ sym (cond-false _ (x ∷ filter (λ z. not (same x z)) (without_repeats same xs))
        (x ∷ (filter (λ z. not (same x z)) (without_repeats same xs) ++ y ∷ []))
        (any-filter key same decides x y e (without_repeats same xs) ∙ f))
