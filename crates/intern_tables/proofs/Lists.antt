-- Lemmas on places in a list.
use Rattle.std.proofs.Common.{◌≡◌, ℕ, ◌+◌, Bool, true, false, not, cond, ◌||◌, List, [], ◌∷◌, ◌++◌, length, map, None}
use Rattle.std.proofs.Common.{Some, refl, ap, arith, true≢false, length-append}
use Rattle.std.specs.Prelude.{position, nat_lt}
use Rattle.std.specs.List.{list_any, prefix_len, position_or_len}
use Rattle.std.proofs.lemmas.Bool.{cond-true, ltb-true}
use Rattle.std.proofs.lemmas.Bool.Decides.{nat_tests}
use Rattle.std.proofs.lemmas.List.{length-map}
use Rattle.std.proofs.lemmas.List.Folds.{position_or_len_push}
use Rattle.std.proofs.lemmas.Option.{cond_some}

-- how many elements from the front on pass, in a list that is mapped
prefix_len-map : {X Y : Type 0} (p : Y → Bool) (f : X → Y) (xs : List X)
    → prefix_len p (map f xs) ≡ prefix_len (λ x. p (f x)) xs
prefix_len-map p f [] = refl
prefix_len-map p f (x ∷ xs) = ap (λ (n : ℕ). cond (p (f x)) (1 + n) 0) (prefix_len-map p f xs)

-- the place of an element, in a list that is mapped
pub position-map : {X Y : Type 0} (p : Y → Bool) (f : X → Y) (xs : List X)
    → position p (map f xs) ≡ position (λ x. p (f x)) xs
position-map p f xs =
    let place = prefix_len-map (λ y. not (p y)) f xs in
    let count = length-map xs f in
    rw (place, count) refl

-- whether an element passes, in a list that is mapped
pub list_any-map : {X Y : Type 0} (p : Y → Bool) (f : X → Y) (xs : List X)
    → list_any p (map f xs) ≡ list_any (λ x. p (f x)) xs
list_any-map p f [] = refl
list_any-map p f (x ∷ xs) = ap (λ (b : Bool). p (f x) || b) (list_any-map p f xs)

-- where no element passes, all fail from the front on
position_or_len-none : {X : Type 0} (p : X → Bool) (xs : List X) → list_any p xs ≡ false
    → position_or_len p xs ≡ length xs
position_or_len-none p [] none = refl
position_or_len-none p (x ∷ xs) none =
    elim (p x) as (λ b. (b || list_any p xs) ≡ false → cond (not b) (1 + position_or_len p xs) 0 ≡ length (x ∷ xs)) [
      | true ↦ λ passes. absurd (true≢false passes)
      | false ↦ λ rest. let there = position_or_len-none p xs rest in omega arith
    ] none

-- where no element passes, there is no place
pub position-none : {X : Type 0} (p : X → Bool) (xs : List X) → list_any p xs ≡ false → position p xs ≡ None
position-none p xs none = let place = position_or_len-none p xs none in grind (arith, nat_tests)

-- an element at the end that is the first to pass
pub position-end : {X : Type 0} (p : X → Bool) (xs : List X) (y : X) → list_any p xs ≡ false → p y ≡ true
    → position p (xs ++ y ∷ []) ≡ Some (length xs)
position-end p xs y none passes =
    let before = position_or_len-none p xs none in
    let push = position_or_len_push p xs y in
    let count = length-append xs (y ∷ []) in
    let last : ◌≡◌ {A = ℕ} (cond (p y) 0 1) 0 = cond-true (p y) 0 1 passes in
    let place : position_or_len p (xs ++ y ∷ []) ≡ length xs = grind (arith, nat_tests) in
    grind (arith, nat_tests)

-- the place of an element stays as the list grows
pub position-push : {X : Type 0} (p : X → Bool) (xs : List X) (y : X) (i : ℕ) → position p xs ≡ Some i
    → position p (xs ++ y ∷ []) ≡ Some i
position-push p xs y i is =
    let before = cond_some (nat_lt (position_or_len p xs) (length xs)) (position_or_len p xs) i is in
    let within = ltb-true (position_or_len p xs) (length xs) before.0 in
    let push = position_or_len_push p xs y in
    let count = length-append xs (y ∷ []) in
    let place : position_or_len p (xs ++ y ∷ []) ≡ i = grind (arith, nat_tests) in
    grind (arith, nat_tests)
