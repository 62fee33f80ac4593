-- Lemmas on the element at a place of a list that grew by one, or of which one was replaced, and on lists of parts.
use Rattle.std.proofs.Common.{◌≡◌, ◌≢◌, ℕ, zero, suc, ◌+◌, ◌-◌, ◌⊎◌, inl, inr, List, [], ◌∷◌, ◌++◌, length, map, take}
use Rattle.std.proofs.Common.{set, Some, refl, sym, ap, ◌∙◌, append-nil, append_assoc, arith}
use Rattle.std.specs.Prelude.{All, slice_get}
use Rattle.std.specs.List.{flat_map, range_with_len}
use Rattle.std.proofs.Math.Seq.{take-append-add}
use Rattle.std.proofs.lemmas.Bool.{cases_lt}
use Rattle.std.proofs.lemmas.List.{take-append-le, take_all, take_more}
use Rattle.std.proofs.lemmas.List.FromFn.{map-range_with_len_more}
use Rattle.std.proofs.lemmas.List.Elements.{All-append, All-head, All-nil, All-tail}
use Rattle.std.proofs.lemmas.Option.{none-some, same_Some, slice_get_within, get_or_from_slice_get}

-- an element before the end stays
pub get-push_old : {X : Type 0} (xs : List X) (y : X) (n : ℕ) (x : X) → slice_get xs n ≡ Some x
    → slice_get (xs ++ y ∷ []) n ≡ Some x
get-push_old [] y n x at = absurd (none-some x at)
get-push_old (z ∷ zs) y zero x at = at
get-push_old (z ∷ zs) y (suc n) x at = get-push_old zs y n x at

-- the new element
pub get-push_new : {X : Type 0} (xs : List X) (y : X) → slice_get (xs ++ y ∷ []) (length xs) ≡ Some y
get-push_new [] y = refl
get-push_new (z ∷ zs) y = get-push_new zs y

-- an element is an old one or the new one
pub get-push_cases : {X : Type 0} (xs : List X) (y : X) (n : ℕ) (x : X) → slice_get (xs ++ y ∷ []) n ≡ Some x
    → (slice_get xs n ≡ Some x) ⊎ ((n ≡ length xs) × (x ≡ y))
get-push_cases [] y zero x at = inr (refl, sym (same_Some y x at))
get-push_cases [] y (suc n) x at = absurd (none-some x at)
get-push_cases (z ∷ zs) y zero x at = inl at
get-push_cases (z ∷ zs) y (suc n) x at =
    elim (get-push_cases zs y n x at) [ inl old ↦ inl old | inr new ↦ inr (ap (λ (k : ℕ). suc k) new.0, new.1) ]

-- the element that is put in place of another
pub get-set_same : {X : Type 0} (xs : List X) (m : ℕ) (x y : X) → slice_get xs m ≡ Some x
    → slice_get (set xs m y) m ≡ Some y
get-set_same [] m x y at = absurd (none-some x at)
get-set_same (z ∷ zs) zero x y at = refl
get-set_same (z ∷ zs) (suc m) x y at = get-set_same zs m x y at

-- an element elsewhere stays
pub get-set_other : {X : Type 0} (xs : List X) (m n : ℕ) (y : X) → n ≢ m → slice_get (set xs m y) n ≡ slice_get xs n
get-set_other [] m n y other = refl
get-set_other (z ∷ zs) zero zero y other = absurd (other refl)
get-set_other (z ∷ zs) zero (suc n) y other = refl
get-set_other (z ∷ zs) (suc m) zero y other = refl
get-set_other (z ∷ zs) (suc m) (suc n) y other = get-set_other zs m n y (λ same. other (ap (λ (k : ℕ). suc k) same))

-- an element is the one that was put there, or stands elsewhere and stood there before
pub get-set_cases : {X : Type 0} (xs : List X) (m : ℕ) (y : X) (n : ℕ) (x : X) → slice_get (set xs m y) n ≡ Some x
    → ((n ≡ m) × (x ≡ y)) ⊎ ((n ≢ m) × (slice_get xs n ≡ Some x))
get-set_cases [] m y n x at = absurd (none-some x at)
get-set_cases (z ∷ zs) zero y zero x at = inl (refl, sym (same_Some y x at))
get-set_cases (z ∷ zs) zero y (suc n) x at = inr ((λ (e : suc n ≡ zero). absurd (omega arith)), at)
get-set_cases (z ∷ zs) (suc m) y zero x at = inr ((λ (e : zero ≡ suc m). absurd (omega arith)), at)
get-set_cases (z ∷ zs) (suc m) y (suc n) x at =
    elim (get-set_cases zs m y n x at) [
      | inl same ↦ inl (ap (λ (k : ℕ). suc k) same.0, same.1)
      | inr other ↦ inr ((λ (e : suc n ≡ suc m). other.0 (omega arith)), other.1)
    ]

-- one element more of the front of a list
pub take-next : {X : Type 0} (xs : List X) (i : ℕ) (x : X) → slice_get xs i ≡ Some x
    → take (i + 1) xs ≡ take i xs ++ x ∷ []
take-next xs i x at =
    take_more xs i x (slice_get_within xs i x at) ∙ ap (λ y. take i xs ++ y ∷ []) (get_or_from_slice_get xs i x x at)

-- two appends in a row
pub two-appended : {X : Type 0} (o a b p q : List X) → a ≡ o ++ p → b ≡ a ++ q → b ≡ o ++ (p ++ q)
two-appended {X} o a b p q p_is q_is = q_is ∙ ap (λ (xs : List X). xs ++ q) p_is ∙ append_assoc o p q

-- the first of two lists together
pub take-both : {X : Type 0} (n : ℕ) (xs ys : List X) → take n (xs ++ ys) ≡ take n xs ++ take (n - length xs) ys
take-both {X} n xs ys = elim (cases_lt (length xs) n) [
  | inr short ↦
      let none : n - length xs ≡ 0 = omega arith in
      take-append-le n xs ys short ∙ sym (append-nil (take n xs)) ∙ ap (λ (k : ℕ). take n xs ++ take k ys) (sym none)
  | inl long ↦
      let more : n ≡ length xs + (n - length xs) = omega arith in
      ap (λ (k : ℕ). take k (xs ++ ys)) more ∙ take-append-add xs ys (n - length xs)
      ∙ ap (λ (zs : List X). zs ++ take (n - length xs) ys) (sym (take_all n xs (omega arith)))
]

-- what holds of each element of the parts of a list
pub All-flat : {X A : Type 0} (P : A → Type 0) (f : X → List A) (xs : List X) → All (λ x. All P (f x)) xs
    → All P (flat_map f xs)
All-flat P f [] all = All-nil P
All-flat P f (x ∷ xs) all =
    All-append P (f x) (flat_map f xs) (All-head (λ y. All P (f y)) x xs all)
    (All-flat P f xs (All-tail (λ y. All P (f y)) x xs all))

-- lists by their numbers, and one more
pub listed-more : {X : Type 0} (f : ℕ → X) (n : ℕ) (old new : List X) → old ≡ map f (range_with_len 0 n)
    → new ≡ old ++ f n ∷ [] → new ≡ map f (range_with_len 0 (n + 1))
listed-more f n old new are added =
    added ∙ ap (λ xs. xs ++ f n ∷ []) are ∙ sym (map-range_with_len_more f 0 n n (omega arith))
