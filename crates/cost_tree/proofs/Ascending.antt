-- Lemmas on lists in an order, ascending ones of numbers among them, and on the elements of lists that a function is
-- mapped over.
use Rattle.std.proofs.Common.{◌≡◌, ℕ, zero, suc, ◌<◌, ◌⊎◌, inl, inr, List, [], ◌∷◌, length, map, get_or, refl, sym, ap}
use Rattle.std.proofs.Common.{◌∙◌, subst, arith}
use Rattle.std.specs.Prelude.{All, AllPairs, Contains}
use Rattle.std.proofs.lemmas.List.{get_or-map, length-map}
use Rattle.std.proofs.lemmas.List.Elements.{Contains-append_right, Contains-get_or}

-- an element is the first one or a later one
in_cons : {X : Type 0} (x : X) (xs : List X) (y : X) → Contains (x ∷ xs) y → (x ≡ y) ⊎ Contains xs y
in_cons {X} x xs y held = at held.0 held.1 held.2
  where
    at : (k : ℕ) → k < length (x ∷ xs) → get_or (x ∷ xs) k y ≡ y → (x ≡ y) ⊎ Contains xs y
    at zero within is = inl is
    at (suc k) within is = inr (k, omega arith, is)

pub pairs-tail : {X : Type 0} (R : X → X → Type 0) (x : X) (xs : List X) → AllPairs R (x ∷ xs) → AllPairs R xs
pairs-tail R x xs pairs = λ i j d before within. pairs (suc i) (suc j) d (omega arith) (omega arith)

pub pairs-head : {X : Type 0} (R : X → X → Type 0) (x : X) (xs : List X) → AllPairs R (x ∷ xs) → All (R x) xs
pairs-head R x xs pairs = λ k d within. pairs zero (suc k) d (omega arith) (omega arith)

-- in an order in which no two elements come before each other
module _ {X : Type 0} (R : X → X → Type 0) (not-both : (a b : X) → R a b → R b a → ⊥) where
  -- the first comes before each later one
  first-before : (x : X) (xs : List X) (y : X) → AllPairs R (x ∷ xs) → Contains xs y → R x y
  first-before x xs y pairs held = subst (R x) held.2 (pairs-head R x xs pairs held.0 y held.1)

  -- an element of the rests too
  rest-same : (x : X) (xs : List X) (y : X) (ys : List X) (z : X) → x ≡ y → AllPairs R (x ∷ xs) → Contains xs z
      → Contains (y ∷ ys) z → Contains ys z
  rest-same x xs y ys z heads pairs here there =
      elim (in_cons y ys z there) [
        | inl is ↦
            let before = first-before x xs z pairs here in
            let itself : R z z = subst (λ a. R a z) (heads ∙ is) before in
            absurd (not-both z z itself itself)
        | inr later ↦ later
      ]

  -- two lists in this order that have the same elements are equal
  pub ordered-same : (xs ys : List X) → AllPairs R xs → AllPairs R ys
      → ((z : X) → Contains xs z → Contains ys z) → ((z : X) → Contains ys z → Contains xs z) → xs ≡ ys
  ordered-same [] [] up up' there back = refl
  ordered-same [] (y ∷ ys) up up' there back =
      let held = back y (0, omega arith, refl) in let within = held.1 in absurd (omega arith)
  ordered-same (x ∷ xs) [] up up' there back =
      let held = there x (0, omega arith, refl) in let within = held.1 in absurd (omega arith)
  ordered-same (x ∷ xs) (y ∷ ys) up up' there back =
      let heads : x ≡ y = elim (in_cons y ys x (there x (0, omega arith, refl))) [
        | inl is ↦ sym is
        | inr after ↦ elim (in_cons x xs y (back y (0, omega arith, refl))) [
          | inl is ↦ is
          | inr later ↦ absurd (not-both x y (first-before x xs y up later) (first-before y ys x up' after))
        ]
      ] in
      let rests = ordered-same xs ys (pairs-tail R x xs up) (pairs-tail R y ys up')
      (λ z held. rest-same x xs y ys z heads up held (there z (Contains-append_right (x ∷ []) xs z held)))
      (λ z held. rest-same y ys x xs z (sym heads) up' held (back z (Contains-append_right (y ∷ []) ys z held))) in
      ap (λ (z : X). z ∷ xs) heads ∙ ap (λ (zs : List X). y ∷ zs) rests

-- ascending lists with the same numbers are equal
pub ascending-same : (xs ys : List ℕ) → AllPairs (λ a b. a < b) xs → AllPairs (λ a b. a < b) ys
    → ((n : ℕ) → Contains xs n → Contains ys n) → ((n : ℕ) → Contains ys n → Contains xs n) → xs ≡ ys
ascending-same = ordered-same (λ a b. a < b) (λ a b one two. omega arith)

-- the elements of a list that a function is mapped over
pub mapped-from : {X Y : Type 0} (f : X → Y) (xs : List X) (d : X) (y : Y) → Contains (map f xs) y
    → (x : X) × Contains xs x × (f x ≡ y)
mapped-from f xs d y held =
    let count = length-map xs f in
    let within = held.1 in (
      get_or xs held.0 d,
      Contains-get_or xs held.0 d (omega arith),
      sym (get_or-map f xs held.0 d y (omega arith)) ∙ held.2,
    )

pub mapped-to : {X Y : Type 0} (f : X → Y) (xs : List X) (x : X) → Contains xs x → Contains (map f xs) (f x)
mapped-to f xs x held =
    let count = length-map xs f in
    let within = held.1 in
    (held.0, omega arith, get_or-map f xs held.0 x (f x) (omega arith) ∙ ap f held.2)

-- numbers that ascend with the elements
pub mapped-pairs : (f : ℕ → ℕ) (xs : List ℕ) → AllPairs (λ a b. a < b) xs
    → ((a b : ℕ) → Contains xs a → Contains xs b → a < b → f a < f b) → AllPairs (λ a b. a < b) (map f xs)
mapped-pairs f xs up rise = λ i j d before within.
    let count = length-map xs f in
    let one = get_or-map f xs i 0 d (omega arith) in
    let two = get_or-map f xs j 0 d (omega arith) in
    let below = up i j 0 before (omega arith) in
    let is =
    rise (get_or xs i 0) (get_or xs j 0) (Contains-get_or xs i 0 (omega arith)) (Contains-get_or xs j 0 (omega arith))
    below in
    omega arith

-- functions that agree at each element
pub mapped-same : {X Y : Type 0} (f g : X → Y) (xs : List X) → ((x : X) → Contains xs x → f x ≡ g x)
    → map f xs ≡ map g xs
mapped-same f g [] same = refl
mapped-same f g (x ∷ xs) same =
    ap (λ y. y ∷ map f xs) (same x (0, omega arith, refl))
    ∙ ap (λ ys. g x ∷ ys) (mapped-same f g xs (λ z held. same z (Contains-append_right (x ∷ []) xs z held)))
