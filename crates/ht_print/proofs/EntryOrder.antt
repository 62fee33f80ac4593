-- Lemmas on the order of entries: two lists in order that have the same entries are one.
use Rattle.std.proofs.Common.{◌≡◌, ℕ, suc, ◌+◌, ◌<◌, ◌≤◌, Bool, true, false, cond, List, [], ◌∷◌, length, map, get_or}
use Rattle.std.proofs.Common.{refl, sym, ap, ◌∙◌, arith}
use Rattle.std.specs.Prelude.{filter, sum_by}
use Rattle.std.specs.Cmp.{IsStrictWeakOrder}
use Rattle.std.specs.List.Sorted.{IsPermutation, IsSortedBy}
use Rattle.std.proofs.lemmas.Bool.Decides.{nat_tests}
use Rattle.std.proofs.lemmas.List.{map-id}
use Rattle.std.proofs.lemmas.List.Sums.{sum_by-cons}
use Rattle.std.proofs.lemmas.List.Sorted.{sorted_far, sum_by-IsPermutation}
use Rattle.ht_print.specs.declared.entry.Entry.{Entry}
use Rattle.ht_print.specs.ReportOrder.{in_order, is_before, placed}

-- none of the entries stands before this one
abbrev pub NoneBefore : Entry → List Entry → Type 0
NoneBefore entry [] = Unit {0}
NoneBefore entry (other ∷ more) = (is_before other entry ≡ false) × NoneBefore entry more

-- no entry stands before an earlier one
abbrev pub IsOrdered : List Entry → Type 0
IsOrdered [] = Unit {0}
IsOrdered (entry ∷ more) = NoneBefore entry more × IsOrdered more

-- the order is one
pub one-way : (one other : Entry) → is_before one other ≡ true → is_before other one ≡ false
one-way one other is = grind (arith, nat_tests)

pub chain : (a b c : Entry) → is_before a b ≡ false → is_before b c ≡ false → is_before a c ≡ false
chain a b c ab bc = grind (arith, nat_tests)

before-all : (a b c : Entry) → is_before a b ≡ true → is_before c b ≡ false → is_before a c ≡ true
before-all a b c ab cb = grind (arith, nat_tests)

not-itself : (one : Entry) → is_before one one ≡ false
not-itself one = grind (arith, nat_tests)

same-entry : (one other : Entry) → is_before one other ≡ false → is_before other one ≡ false → one ≡ other
same-entry one other first second =
    let figures : one.figure ≡ other.figure = grind (arith, nat_tests) in
    let stacks : one.stack ≡ other.stack = grind (arith, nat_tests) in
    ap (λ (n : ℕ). record { figure = n; stack = one.stack }) figures
    ∙ ap (λ (n : ℕ). record { figure = other.figure; stack = n }) stacks

pub is-order : IsStrictWeakOrder is_before
is-order = record { one_way = one-way; chain = chain }

-- 1 for an entry that this one doesn't stand before
no-later : Entry → Entry → ℕ
no-later entry other = cond (is_before entry other) 0 1

none-no-later : (x y : Entry) (ys : List Entry) → is_before x y ≡ true → NoneBefore y ys → sum_by (no-later x) ys ≡ 0
unfolding no-later
none-no-later x y [] before none = refl
none-no-later x y (z ∷ zs) before none =
    let here : no-later x z ≡ 0 = ap (λ (b : Bool). cond {A = ℕ} b 0 1) (before-all x y z before none.0) in
    let rest = none-no-later x y zs before none.1 in
    let whole = sum_by-cons (no-later x) z zs in
    omega (arith, here, rest, whole)

-- the first of the one list doesn't stand before the first of the other
heads : (x y : Entry) (xs ys : List Entry) → NoneBefore y ys
    → sum_by (no-later x) (x ∷ xs) ≡ sum_by (no-later x) (y ∷ ys) → (answer : Bool) → is_before x y ≡ answer
    → answer ≡ false
unfolding no-later
heads x y xs ys none same true before =
    let itself : no-later x x ≡ 1 = ap (λ (b : Bool). cond {A = ℕ} b 0 1) (not-itself x) in
    let other : no-later x y ≡ 0 = ap (λ (b : Bool). cond {A = ℕ} b 0 1) before in
    let rest = none-no-later x y ys before none in
    let one = sum_by-cons (no-later x) x xs in
    let two = sum_by-cons (no-later x) y ys in
    absurd (omega (arith, itself, other, rest, one, two, same))
heads x y xs ys none same false before = refl

pub ordered-same : (xs ys : List Entry) → IsOrdered xs → IsOrdered ys → ((f : Entry → ℕ) → sum_by f xs ≡ sum_by f ys)
    → xs ≡ ys
ordered-same [] [] up up' same = refl
ordered-same [] (y ∷ ys) up up' same =
    let one = sum_by-cons (λ (e : Entry). 1) y ys in let both = same (λ e. 1) in absurd (omega (arith, one, both))
ordered-same (x ∷ xs) [] up up' same =
    let one = sum_by-cons (λ (e : Entry). 1) x xs in let both = same (λ e. 1) in absurd (omega (arith, one, both))
ordered-same (x ∷ xs) (y ∷ ys) up up' same =
    let first : x ≡ y =
    same-entry x y (heads x y xs ys up'.0 (same (no-later x)) (is_before x y) refl)
    (heads y x ys xs up.0 (sym (same (no-later y))) (is_before y x) refl) in
    let rest : xs ≡ ys = ordered-same xs ys up.1 up'.1
    (λ f. let one = sum_by-cons f x xs in let two = sum_by-cons f y ys in let both = same f in let heads_same = ap f
    first in omega (arith, one, two, both, heads_same)) in
    ap (λ (e : Entry). e ∷ xs) first ∙ ap (λ (es : List Entry). y ∷ es) rest

-- an entry at its place
place-sum : (f : Entry → ℕ) (entry x : Entry) (xs : List Entry) (answer : Bool)
    → sum_by f (placed entry xs) ≡ f entry + sum_by f xs
    → sum_by f (cond answer (x ∷ placed entry xs) (entry ∷ x ∷ xs)) ≡ f entry + sum_by f (x ∷ xs)
place-sum f entry x xs true rest =
    let one = sum_by-cons f x (placed entry xs) in
    let two = sum_by-cons f x xs in
    omega (arith, one, two, rest)
place-sum f entry x xs false rest = sum_by-cons f entry (x ∷ xs)

placed-sum : (f : Entry → ℕ) (entry : Entry) (xs : List Entry) → sum_by f (placed entry xs) ≡ f entry + sum_by f xs
placed-sum f entry [] = sum_by-cons f entry []
placed-sum f entry (x ∷ xs) = place-sum f entry x xs (is_before x entry) (placed-sum f entry xs)

place-none : (z entry x : Entry) (xs : List Entry) (answer : Bool) → is_before entry z ≡ false → NoneBefore z (x ∷ xs)
    → NoneBefore z (placed entry xs) → NoneBefore z (cond answer (x ∷ placed entry xs) (entry ∷ x ∷ xs))
place-none z entry x xs true after none rest = (none.0, rest)
place-none z entry x xs false after none rest = (after, none)

placed-none : (z entry : Entry) (xs : List Entry) → is_before entry z ≡ false → NoneBefore z xs
    → NoneBefore z (placed entry xs)
placed-none z entry [] after none = (after, tt)
placed-none z entry (x ∷ xs) after none =
    place-none z entry x xs (is_before x entry) after none (placed-none z entry xs after none.1)

none-through : (a b : Entry) (xs : List Entry) → is_before b a ≡ false → NoneBefore b xs → NoneBefore a xs
none-through a b [] after none = tt
none-through a b (x ∷ xs) after none = (chain x b a none.0 after, none-through a b xs after none.1)

place-ordered : (entry x : Entry) (xs : List Entry) (answer : Bool) → is_before x entry ≡ answer → IsOrdered (x ∷ xs)
    → IsOrdered (placed entry xs) → IsOrdered (cond answer (x ∷ placed entry xs) (entry ∷ x ∷ xs))
place-ordered entry x xs true is up rest = (placed-none x entry xs (one-way x entry is) up.0, rest)
place-ordered entry x xs false is up rest = ((is, none-through entry x xs is up.0), up)

placed-ordered : (entry : Entry) (xs : List Entry) → IsOrdered xs → IsOrdered (placed entry xs)
placed-ordered entry [] up = (tt, tt)
placed-ordered entry (x ∷ xs) up = place-ordered entry x xs (is_before x entry) refl up (placed-ordered entry xs up.1)

-- a list in order
pub in_order-ordered : (xs : List Entry) → IsOrdered (in_order xs)
in_order-ordered [] = tt
in_order-ordered (x ∷ xs) = placed-ordered x (in_order xs) (in_order-ordered xs)

pub in_order-sum : (f : Entry → ℕ) (xs : List Entry) → sum_by f (in_order xs) ≡ sum_by f xs
in_order-sum f [] = refl
in_order-sum f (x ∷ xs) =
    let one = placed-sum f x (in_order xs) in
    let rest = in_order-sum f xs in
    let two = sum_by-cons f x xs in
    omega (arith, one, rest, two)

-- a sorted list is in order
none-before : {X : Type 0} (key : X → Entry) (x : Entry) (xs : List X)
    → ((k : ℕ) (d : X) → k < length xs → is_before (key (get_or xs k d)) x ≡ false) → NoneBefore x (map key xs)
none-before key x [] far = tt
none-before key x (y ∷ ys) far =
    (far 0 y (omega arith), none-before key x ys (λ k d within. far (suc k) d (omega arith)))

ordered-by : {X : Type 0} (key : X → Entry) (xs : List X)
    → ((i j : ℕ) (d : X) → i ≤ j → j < length xs → is_before (key (get_or xs j d)) (key (get_or xs i d)) ≡ false)
    → IsOrdered (map key xs)
ordered-by key [] far = tt
ordered-by key (x ∷ xs) far = (
  none-before key (key x) xs (λ k d within. far 0 (suc k) d (omega arith) (omega arith)),
  ordered-by key xs (λ i j d below within. far (suc i) (suc j) d (omega arith) (omega arith)),
)

pub sum-mapped : {X : Type 0} (f : Entry → ℕ) (key : X → Entry) (xs : List X)
    → sum_by f (map key xs) ≡ sum_by (λ x. f (key x)) xs
sum-mapped f key [] = refl
sum-mapped f key (x ∷ xs) =
    sum_by-cons f (key x) (map key xs) ∙ ap (λ (n : ℕ). f (key x) + n) (sum-mapped f key xs)
    ∙ sym (sum_by-cons (λ y. f (key y)) x xs)

-- the order of elements by their entries
pub orders-by : {X : Type 0} (key : X → Entry) → IsStrictWeakOrder (λ x y. is_before (key x) (key y))
orders-by key = record { one_way = λ x y. one-way (key x) (key y); chain = λ x y z. chain (key x) (key y) (key z) }

-- elements that were sorted have entries in order
pub sorted-by : {X : Type 0} (key : X → Entry) (xs ys : List X) → IsPermutation xs ys
    → IsSortedBy (λ x y. is_before (key x) (key y)) ys → map key ys ≡ in_order (map key xs)
sorted-by key xs ys moved sorted =
    ordered-same (map key ys) (in_order (map key xs))
    (ordered-by key ys (sorted_far (λ x y. is_before (key x) (key y)) (orders-by key) ys sorted))
    (in_order-ordered (map key xs))
    (λ f. sum-mapped f key ys ∙ sum_by-IsPermutation (λ x. f (key x)) xs ys moved ∙ sym (sum-mapped f key xs)
    ∙ sym (in_order-sum f (map key xs)))

pub sorted-is : (xs ys : List Entry) → IsPermutation xs ys → IsSortedBy is_before ys → ys ≡ in_order xs
sorted-is xs ys moved sorted =
    sym (map-id ys) ∙ sorted-by (λ (e : Entry). e) xs ys moved sorted ∙ ap in_order (map-id xs)

-- a part of some entries has no greater sum
part-step : (p : Entry → Bool) (e : Entry) (es : List Entry) (answer : Bool)
    → sum_by (λ (x : Entry). x.figure) (filter p es) ≤ sum_by (λ (x : Entry). x.figure) es
    → sum_by (λ (x : Entry). x.figure) (cond answer (e ∷ filter p es) (filter p es))
    ≤ sum_by (λ (x : Entry). x.figure) (e ∷ es)
part-step p e es true rest =
    let one = sum_by-cons (λ (x : Entry). x.figure) e (filter p es) in
    let two = sum_by-cons (λ (x : Entry). x.figure) e es in
    omega (arith, one, two, rest)
part-step p e es false rest = let two = sum_by-cons (λ (x : Entry). x.figure) e es in omega (arith, two, rest)

pub part-sum : (p : Entry → Bool) (es : List Entry)
    → sum_by (λ (e : Entry). e.figure) (filter p es) ≤ sum_by (λ (e : Entry). e.figure) es
part-sum p [] = omega arith
part-sum p (e ∷ es) = part-step p e es (p e) (part-sum p es)
