-- Addresses of one class: one more, and without the least.
use Rattle.std.proofs.Common.{◌≡◌, ℕ, ◌≤◌, ◌==◌, ◌||◌, Bool, true, false, cond, List, [], ◌∷◌, length, Option, None}
use Rattle.std.proofs.Common.{Some, refl, sym, ap, ◌∙◌, subst, arith, true≢false}
use Rattle.std.specs.Prelude.{IfNone, IfSome, Result, Ok, Err, OnErr, OnOk}
use Rattle.std.specs.BinaryHeap.{IsUpperBound}
use Rattle.std.specs.List.{AllByRecursion, IsDistinct}
use Rattle.std.specs.List.Sorted.{IsPermutation}
use Rattle.std.specs.declared.cmp.Reverse.{Reverse}
use Rattle.std.proofs.lemmas.Bool.Decides.{nat_tests}
use Rattle.std.proofs.lemmas.List.Sorted.{list_any-IsPermutation}
use Rattle.std.proofs.lemmas.Map.Keys.{IsDistinct-IsPermutation, IsDistinct-cons, IsDistinct-head, IsDistinct-tail}
use Rattle.std.proofs.lemmas.Map.Keys.{ge_from_not_lt}
use Rattle.record_book.specs.Addresses.{TakesLeast, address_cmp, has_address, same_address}

flip : (m n : ℕ) → (m == n) ≡ (n == m)
flip m n = grind (arith, nat_tests)

flips : (x y : Reverse ℕ) → same_address x y ≡ same_address y x
flips x y = flip x.0 y.0

own : (n : ℕ) → (n == n) ≡ true
own n = grind (arith, nat_tests)

both-false : (a b : Bool) → (a || b) ≡ false → (a ≡ false) × (b ≡ false)
both-false true b is = absurd (true≢false is)
both-false false b is = (refl, is)

either-false : (a b : Bool) → a ≡ false → b ≡ false → (a || b) ≡ false
either-false true b first rest = absurd (true≢false first)
either-false false b first rest = rest

or-cond : (a b : Bool) → (a || b) ≡ cond a true b
or-cond true b = refl
or-cond false b = refl

-- an address that isn't among them differs from each
apart : (x : Reverse ℕ) (xs : List (Reverse ℕ)) → has_address xs x.0 ≡ false
    → AllByRecursion (λ y. same_address x y ≡ false) xs
apart x [] none = tt
apart x (y ∷ ys) none =
    let parts = both-false (y.0 == x.0) (has_address ys x.0) none in
    (flip x.0 y.0 ∙ parts.0, apart x ys parts.1)

not-among : (x : Reverse ℕ) (xs : List (Reverse ℕ)) → AllByRecursion (λ y. same_address x y ≡ false) xs
    → has_address xs x.0 ≡ false
not-among x [] all = refl
not-among x (y ∷ ys) all = either-false (y.0 == x.0) (has_address ys x.0) (flip y.0 x.0 ∙ all.0) (not-among x ys all.1)

-- one more is put in
pub has-more : (x : Reverse ℕ) (xs ys : List (Reverse ℕ)) → IsPermutation (x ∷ xs) ys → (a : ℕ)
    → has_address ys a ≡ cond (x.0 == a) true (has_address xs a)
has-more x xs ys moved a =
    sym (list_any-IsPermutation (λ (y : Reverse ℕ). y.0 == a) (x ∷ xs) ys moved) ∙ or-cond (x.0 == a) (has_address xs a)

pub distinct-put : {E : Type 0} (Q : Type 0) (r : Result (Unit {0}) E) (x : Reverse ℕ) (xs ys : List (Reverse ℕ))
    → OnOk r (IsPermutation (x ∷ xs) ys) → OnErr r ((ys ≡ xs) × Q) → IsDistinct same_address xs
    → has_address xs x.0 ≡ false → IsDistinct same_address ys
distinct-put Q (Ok u) x xs ys moved same distinct none =
    IsDistinct-IsPermutation same_address flips (x ∷ xs) ys moved
    (IsDistinct-cons same_address x xs (apart x xs none) distinct)
distinct-put Q (Err e) x xs ys moved same distinct none = subst (IsDistinct same_address) (sym same.0) distinct

-- one is taken out
parted : (x : Reverse ℕ) (xs ys : List (Reverse ℕ)) → IsPermutation xs (x ∷ ys) → IsDistinct same_address xs
    → IsDistinct same_address (x ∷ ys)
parted x xs ys moved distinct = IsDistinct-IsPermutation same_address flips xs (x ∷ ys) moved distinct

pub distinct-left : (Q : Type 0) (found : Option (Reverse ℕ)) (xs ys : List (Reverse ℕ))
    → IfSome found (λ x. IsPermutation xs (x ∷ ys)) → IfNone found ((ys ≡ xs) × Q) → IsDistinct same_address xs
    → IsDistinct same_address ys
distinct-left Q (Some x) xs ys moved same distinct = IsDistinct-tail same_address x ys (parted x xs ys moved distinct)
distinct-left Q None xs ys moved same distinct = subst (IsDistinct same_address) (sym same.0) distinct

pub distinct-none : (xs : List (Reverse ℕ)) → xs ≡ [] → IsDistinct same_address xs
unfolding IsDistinct
distinct-none xs none = subst (IsDistinct same_address) (sym none) tt

had : (x : Reverse ℕ) (xs ys : List (Reverse ℕ)) → IsPermutation xs (x ∷ ys) → (a : ℕ)
    → has_address xs a ≡ cond (x.0 == a) true (has_address ys a)
had x xs ys moved a =
    list_any-IsPermutation (λ (y : Reverse ℕ). y.0 == a) xs (x ∷ ys) moved ∙ or-cond (x.0 == a) (has_address ys a)

-- the first of a heap is the least
none-before : (x : Reverse ℕ) (xs : List (Reverse ℕ)) (a : ℕ) → IsUpperBound address_cmp x xs → has_address xs a ≡ true
    → x.0 ≤ a
none-before x [] a all held = absurd (true≢false (sym held))
none-before x (y ∷ ys) a all held = by (λ rest. none-before x ys a all.1 rest) (y.0 == a) refl held
  where
    by : (has_address ys a ≡ true → x.0 ≤ a) → (b : Bool) → (y.0 == a) ≡ b → (b || has_address ys a) ≡ true → x.0 ≤ a
    by ih true p held =
        let here : y.0 ≡ a = grind (arith, nat_tests, p) in
        omega (arith, here, ge_from_not_lt y.0 x.0 all.0)
    by ih false p held = ih held

pub takes-least : (x : Reverse ℕ) (xs ys : List (Reverse ℕ)) → IsPermutation xs (x ∷ ys) → IsDistinct same_address xs
    → IsUpperBound address_cmp x xs → TakesLeast (has_address xs) (has_address ys) x.0
takes-least x xs ys moved distinct bound = record {
  held = had x xs ys moved x.0 ∙ ap (λ (b : Bool). cond b true (has_address ys x.0)) (own x.0);
  first = λ a held. none-before x xs a bound held;
  left = λ a. by a (x.0 == a) refl (had x xs ys moved a);
}
  where
    gone : has_address ys x.0 ≡ false
    gone = not-among x ys (IsDistinct-head same_address x ys (parted x xs ys moved distinct))

    by : (a : ℕ) (b : Bool) → (x.0 == a) ≡ b → has_address xs a ≡ cond b true (has_address ys a)
        → has_address ys a ≡ cond b false (has_address xs a)
    by a true p is =
        let here : x.0 ≡ a = grind (arith, nat_tests, p) in
        sym (ap (λ (n : ℕ). has_address ys n) here) ∙ gone
    by a false p is = sym is

-- there is none in an empty heap
pub none-in : (xs : List (Reverse ℕ)) → length xs ≡ 0 → (a : ℕ) → has_address xs a ≡ false
none-in [] none a = refl
none-in (x ∷ xs) none a = absurd (omega (arith, none))
