-- Elements of lists by their places, and tests that go on in a mapped list.
use Rattle.std.proofs.Common.{◌≡◌, ◌⊎◌, inl, inr, ℕ, zero, suc, Bool, true, false, cond, ◌||◌, List, [], ◌∷◌, ◌++◌}
use Rattle.std.proofs.Common.{length, map, Option, Some, None, refl, sym, ap, ◌∙◌, arith, true≢false}
use Rattle.std.specs.Prelude.{find, slice_get, Result, Ok, Err, OnErr}
use Rattle.std.specs.Option.{option_map}
use Rattle.std.specs.List.{list_any}
use Rattle.std.proofs.lemmas.Option.{same_Some}

pub any-none : {X : Type 0} (p : X → Bool) (xs : List X) → ((k : ℕ) (x : X) → slice_get xs k ≡ Some x → p x ≡ false)
    → list_any p xs ≡ false
any-none p [] none = refl
any-none p (x ∷ xs) none = rw (none 0 x refl) (any-none p xs (λ k y at. none (suc k) y at))

pub any-some : {X : Type 0} (p : X → Bool) (xs : List X) (k : ℕ) (x : X) → slice_get xs k ≡ Some x → p x ≡ true
    → list_any p xs ≡ true
any-some p [] k x at passes = absurd (grind (arith, at))
any-some p (y ∷ ys) zero x at passes = rw (ap p (same_Some y x at) ∙ passes) refl
any-some p (y ∷ ys) (suc k) x at passes = by (p y) (any-some p ys k x at passes)
  where
    by : (b : Bool) → list_any p ys ≡ true → (b || list_any p ys) ≡ true
    by true rest = refl
    by false rest = rest

pub any-not : {X : Type 0} (p : X → Bool) (xs : List X) (k : ℕ) (x : X) → list_any p xs ≡ false
    → slice_get xs k ≡ Some x → p x ≡ false
any-not p xs k x none at = by (p x) refl
  where
    by : (b : Bool) → p x ≡ b → b ≡ false
    by true passes = absurd (true≢false (sym (any-some p xs k x at passes) ∙ none))
    by false passes = refl

pub find-none : {X : Type 0} (p : X → Bool) (xs : List X) → ((k : ℕ) (x : X) → slice_get xs k ≡ Some x → p x ≡ false)
    → find p xs ≡ None
find-none p [] none = refl
find-none p (x ∷ xs) none = rw (none 0 x refl) (find-none p xs (λ k y at. none (suc k) y at))

-- the first that passes is the only one that does
pub find-only : {X : Type 0} (p : X → Bool) (xs : List X) (k : ℕ) (x : X) → slice_get xs k ≡ Some x → p x ≡ true
    → ((j : ℕ) (y : X) → slice_get xs j ≡ Some y → p y ≡ true → y ≡ x) → find p xs ≡ Some x
find-only p [] k x at passes only = absurd (grind (arith, at))
find-only p (y ∷ ys) zero x at passes only = rw (ap p (same_Some y x at) ∙ passes) at
find-only {X} p (y ∷ ys) (suc k) x at passes only =
    by (p y) refl (find-only p ys k x at passes (λ j z there. only (suc j) z there))
  where
    by : (b : Bool) → p y ≡ b → find p ys ≡ Some x → cond {A = Option X} b (Some y) (find p ys) ≡ Some x
    by true here rest = ap (λ (z : X). Some z) (only 0 y refl here)
    by false here rest = rest

pub any-map : {X Y : Type 0} (p : Y → Bool) (q : X → Bool) (f : X → Y) (xs : List X)
    → ((k : ℕ) (x : X) → slice_get xs k ≡ Some x → p (f x) ≡ q x) → list_any p (map f xs) ≡ list_any q xs
any-map p q f [] same = refl
any-map p q f (x ∷ xs) same = rw (same 0 x refl, any-map p q f xs (λ k y at. same (suc k) y at)) refl

pub find-map : {X Y : Type 0} (p : Y → Bool) (q : X → Bool) (f : X → Y) (xs : List X)
    → ((k : ℕ) (x : X) → slice_get xs k ≡ Some x → p (f x) ≡ q x) → find p (map f xs) ≡ option_map f (find q xs)
find-map p q f [] same = refl
find-map {X} {Y} p q f (x ∷ xs) same = rw (same 0 x refl, find-map p q f xs (λ k y at. same (suc k) y at)) (by (q x))
  where
    by : (b : Bool)
        → cond {A = Option Y} b (Some (f x)) (option_map f (find q xs))
        ≡ option_map f (cond {A = Option X} b (Some x) (find q xs))
    by true = refl
    by false = refl

pub map-same : {X Y : Type 0} (f g : X → Y) (xs : List X) → ((k : ℕ) (x : X) → slice_get xs k ≡ Some x → f x ≡ g x)
    → map f xs ≡ map g xs
map-same f g [] same = refl
map-same f g (x ∷ xs) same = rw (same 0 x refl, map-same f g xs (λ k y at. same (suc k) y at)) refl

pub push-old : {X : Type 0} (xs : List X) (y x : X) (k : ℕ) → slice_get xs k ≡ Some x
    → slice_get (xs ++ y ∷ []) k ≡ Some x
push-old [] y x k at = absurd (grind (arith, at))
push-old (z ∷ zs) y x zero at = at
push-old (z ∷ zs) y x (suc k) at = push-old zs y x k at

pub push-new : {X : Type 0} (xs : List X) (y : X) → slice_get (xs ++ y ∷ []) (length xs) ≡ Some y
push-new [] y = refl
push-new (z ∷ zs) y = push-new zs y

-- an element of a list with one more at its end
pub push-cases : {X : Type 0} (xs : List X) (y x : X) (k : ℕ) → slice_get (xs ++ y ∷ []) k ≡ Some x
    → (slice_get xs k ≡ Some x) ⊎ ((k ≡ length xs) × (x ≡ y))
push-cases [] y x zero at = inr (refl, sym (same_Some y x at))
push-cases [] y x (suc k) at = absurd (grind (arith, at))
push-cases (z ∷ zs) y x zero at = inl at
push-cases (z ∷ zs) y x (suc k) at =
    elim (push-cases zs y x k at) [ inl old ↦ inl old | inr new ↦ inr (ap suc new.0, new.1) ]

pub on-err : {X E : Type 0} (r : Result X E) (P : Type 0) → P → OnErr r P
on-err (Ok x) P p = tt
on-err (Err e) P p = p
