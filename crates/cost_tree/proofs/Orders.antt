-- Lemmas on what stands by descending cost.
use Rattle.std.proofs.Common.{◌≡◌, ℕ, ◌<◌, ◌≤◌, ◌⊎◌, inl, inr, Bool, true, false, cond, List, [], ◌∷◌}
use Rattle.std.proofs.Common.{map, filter, get_or, refl, ap, ◌∙◌, arith, IsPermutation}
use Rattle.std.specs.Prelude.{All, AllPairs, nat_lt}
use Rattle.std.proofs.lemmas.Bool.{cases_Bool, cond_both, ltb-false, ltb-true}
use Rattle.std.proofs.lemmas.List.Elements.{All-cons, All-head, All-tail}
use Rattle.std.proofs.lemmas.List.Kept.{AllPairs-cons}
use Rattle.std.proofs.lemmas.List.Sorted.{All-permutation, Contains-permutation, IsPermutation-cons}
use Rattle.std.proofs.lemmas.List.Sorted.{IsPermutation-middle, IsPermutation-refl, IsPermutation-sym}
use Rattle.std.proofs.lemmas.List.Sorted.{IsPermutation-trans}
use Rattle.cost_tree.specs.declared.children.Child.{Child}
use Rattle.cost_tree.specs.Order.{before_cheaper, by_cost}
use Rattle.cost_tree.proofs.Ascending.{ordered-same, pairs-head, pairs-tail}

-- the same elements in another order
before_cheaper-permutation : {X : Type 0} (cost : X → ℕ) (x : X) (ys : List X)
    → IsPermutation (x ∷ ys) (before_cheaper cost x ys)
before_cheaper-permutation cost x [] = IsPermutation-refl (x ∷ [])
before_cheaper-permutation cost x (y ∷ ys) =
    cond_both (nat_lt (cost x) (cost y)) (y ∷ before_cheaper cost x ys) (x ∷ y ∷ ys) (IsPermutation (x ∷ y ∷ ys))
    (λ costlier. IsPermutation-trans (x ∷ y ∷ ys) (y ∷ x ∷ ys) (y ∷ before_cheaper cost x ys)
    (IsPermutation-middle (x ∷ []) y ys)
    (IsPermutation-cons y (x ∷ ys) (before_cheaper cost x ys) (before_cheaper-permutation cost x ys)))
    (λ cheaper. IsPermutation-refl (x ∷ y ∷ ys))

pub by_cost-permutation : {X : Type 0} (cost : X → ℕ) (xs : List X) → IsPermutation xs (by_cost cost xs)
by_cost-permutation cost [] = IsPermutation-refl []
by_cost-permutation cost (x ∷ xs) =
    IsPermutation-trans (x ∷ xs) (x ∷ by_cost cost xs) (by_cost cost (x ∷ xs))
    (IsPermutation-cons x xs (by_cost cost xs) (by_cost-permutation cost xs))
    (before_cheaper-permutation cost x (by_cost cost xs))

-- a child that comes before another
abbrev pub IsBefore : Child → Child → Type 0
IsBefore a b = (b.cost < a.cost) ⊎ ((a.cost ≡ b.cost) × (a.node < b.node))

-- no child comes before one that comes before it
not-both : (a b : Child) → IsBefore a b → IsBefore b a → ⊥
not-both a b (inl one) (inl two) = omega arith
not-both a b (inl one) (inr two) = let same = two.0 in omega arith
not-both a b (inr one) (inl two) = let same = one.0 in omega arith
not-both a b (inr one) (inr two) = let first = one.1 in let second = two.1 in omega arith

-- one that costs no less, of a lower node
before-from : (a b : Child) → b.cost ≤ a.cost → a.node < b.node → IsBefore a b
before-from a b no_less lower =
    elim (cases_Bool (nat_lt b.cost a.cost)) [
      | inl less ↦ inl (ltb-true b.cost a.cost less)
      | inr other ↦ let no_more = ltb-false b.cost a.cost other in inr (omega arith, lower)
    ]

cheaper-from : (a b : Child) → IsBefore a b → b.cost ≤ a.cost
cheaper-from a b (inl less) = omega arith
cheaper-from a b (inr same) = let equal = same.0 in omega arith

abbrev cost_of_child : Child → ℕ
cost_of_child child = child.cost

-- a child of a lower node than all others finds its place
put-before : (x : Child) (ys : List Child) → All (λ y. x.node < y.node) ys → AllPairs IsBefore ys
    → AllPairs IsBefore (before_cheaper cost_of_child x ys)
put-before x [] lower pairs = λ i j d before within. absurd (omega arith)
put-before x (y ∷ ys) lower pairs =
    let below_y = pairs-head IsBefore y ys pairs in
    let rest = pairs-tail IsBefore y ys pairs in
    let lower_y = All-head (λ z. x.node < z.node) y ys lower in
    let lower_rest = All-tail (λ z. x.node < z.node) y ys lower in
    cond_both (nat_lt x.cost y.cost) (y ∷ before_cheaper cost_of_child x ys) (x ∷ y ∷ ys) (AllPairs IsBefore)
    (λ costlier.
    AllPairs-cons IsBefore y (before_cheaper cost_of_child x ys)
    (All-permutation (IsBefore y) (x ∷ ys) (before_cheaper cost_of_child x ys)
    (before_cheaper-permutation cost_of_child x ys)
    (All-cons (IsBefore y) x ys (inl (ltb-true x.cost y.cost costlier)) below_y))
    (put-before x ys lower_rest rest))
    (λ cheaper.
    let no_less = ltb-false x.cost y.cost cheaper in
    AllPairs-cons IsBefore x (y ∷ ys)
    (All-cons (IsBefore x) y ys (before-from x y (omega arith) lower_y)
    (λ k d within. let less = cheaper-from y (get_or ys k d) (below_y k d within) in before-from x (get_or ys k d)
    (omega arith) (lower_rest k d within)))
    pairs)

-- children of ascending nodes come one before the other
pub by_cost-ordered : (xs : List Child) → AllPairs (λ older younger. older.node < younger.node) xs
    → AllPairs IsBefore (by_cost cost_of_child xs)
by_cost-ordered [] up = λ i j d before within. absurd (omega arith)
by_cost-ordered (x ∷ xs) up =
    let R : Child → Child → Type 0 = λ older younger. older.node < younger.node in
    put-before x (by_cost cost_of_child xs)
    (All-permutation (R x) xs (by_cost cost_of_child xs) (by_cost-permutation cost_of_child xs) (pairs-head R x xs up))
    (by_cost-ordered xs (pairs-tail R x xs up))

-- a list of the same elements in this order is the defined one
pub by_cost-is : (xs ys : List Child) → AllPairs (λ older younger. older.node < younger.node) xs → IsPermutation xs ys
    → AllPairs IsBefore ys → ys ≡ by_cost cost_of_child xs
by_cost-is xs ys up same ordered =
    let defined = by_cost-permutation cost_of_child xs in
    ordered-same IsBefore not-both ys (by_cost cost_of_child xs) ordered (by_cost-ordered xs up)
    (λ z held. Contains-permutation xs (by_cost cost_of_child xs) z defined
    (Contains-permutation ys xs z (IsPermutation-sym xs ys same) held))
    (λ z held. Contains-permutation xs ys z same
    (Contains-permutation (by_cost cost_of_child xs) xs z (IsPermutation-sym xs (by_cost cost_of_child xs) defined)
    held))

-- the order of what a function gives is that of its arguments by what they give
before_cheaper-map : {X Y : Type 0} (cost : Y → ℕ) (f : X → Y) (x : X) (ys : List X)
    → before_cheaper cost (f x) (map f ys) ≡ map f (before_cheaper (λ y. cost (f y)) x ys)
before_cheaper-map cost f x [] = refl
before_cheaper-map cost f x (y ∷ ys) =
    elim (nat_lt (cost (f x)) (cost (f y))) as
    (λ b. cond b (f y ∷ before_cheaper cost (f x) (map f ys)) (f x ∷ f y ∷ map f ys)
    ≡ map f (cond b (y ∷ before_cheaper (λ z. cost (f z)) x ys) (x ∷ y ∷ ys)))
    [ true ↦ ap (λ zs. f y ∷ zs) (before_cheaper-map cost f x ys) | false ↦ refl ]

pub by_cost-map : {X Y : Type 0} (cost : Y → ℕ) (f : X → Y) (xs : List X)
    → by_cost cost (map f xs) ≡ map f (by_cost (λ x. cost (f x)) xs)
by_cost-map cost f [] = refl
by_cost-map cost f (x ∷ xs) =
    ap (before_cheaper cost (f x)) (by_cost-map cost f xs) ∙ before_cheaper-map cost f x (by_cost (λ y. cost (f y)) xs)

-- costs that agree give one order
before_cheaper-same : {X : Type 0} (c c' : X → ℕ) (x : X) (ys : List X) → c x ≡ c' x → All (λ y. c y ≡ c' y) ys
    → before_cheaper c x ys ≡ before_cheaper c' x ys
before_cheaper-same c c' x [] here all = refl
before_cheaper-same {X} c c' x (y ∷ ys) here all =
    let first : c y ≡ c' y = All-head (λ z. c z ≡ c' z) y ys all in
    let rest = before_cheaper-same c c' x ys here (All-tail (λ z. c z ≡ c' z) y ys all) in
    ap (λ (zs : List X). cond (nat_lt (c x) (c y)) (y ∷ zs) (x ∷ y ∷ ys)) rest
    ∙ ap (λ (n : ℕ). cond (nat_lt n (c y)) (y ∷ before_cheaper c' x ys) (x ∷ y ∷ ys)) here
    ∙ ap (λ (n : ℕ). cond (nat_lt (c' x) n) (y ∷ before_cheaper c' x ys) (x ∷ y ∷ ys)) first

pub by_cost-same : {X : Type 0} (c c' : X → ℕ) (xs : List X) → All (λ x. c x ≡ c' x) xs → by_cost c xs ≡ by_cost c' xs
by_cost-same c c' [] all = refl
by_cost-same c c' (x ∷ xs) all =
    let rest = All-tail (λ z. c z ≡ c' z) x xs all in
    ap (before_cheaper c x) (by_cost-same c c' xs rest)
    ∙ before_cheaper-same c c' x (by_cost c' xs) (All-head (λ z. c z ≡ c' z) x xs all)
    (All-permutation (λ z. c z ≡ c' z) xs (by_cost c' xs) (by_cost-permutation c' xs) rest)

-- what passes a test of what a function gives
pub filter-map : {X Y : Type 0} (p : Y → Bool) (f : X → Y) (xs : List X)
    → filter p (map f xs) ≡ map f (filter (λ x. p (f x)) xs)
filter-map p f [] = refl
filter-map p f (x ∷ xs) =
    elim (p (f x)) as
    (λ b. cond b (f x ∷ filter p (map f xs)) (filter p (map f xs))
    ≡ map f (cond b (x ∷ filter (λ y. p (f y)) xs) (filter (λ y. p (f y)) xs)))
    [ true ↦ ap (λ ys. f x ∷ ys) (filter-map p f xs) | false ↦ filter-map p f xs ]

pub filter-same : {X : Type 0} (p q : X → Bool) (xs : List X) → All (λ x. p x ≡ q x) xs → filter p xs ≡ filter q xs
filter-same p q [] all = refl
filter-same {X} p q (x ∷ xs) all =
    ap (λ (b : Bool). cond b (x ∷ filter p xs) (filter p xs)) (All-head (λ y. p y ≡ q y) x xs all)
    ∙ ap (λ (ys : List X). cond (q x) (x ∷ ys) ys) (filter-same p q xs (All-tail (λ y. p y ≡ q y) x xs all))
