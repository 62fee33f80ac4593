-- What the crates above may cite: the greatest of some numbers, and the first place at which it stands.
use Rattle.std.proofs.Common.{◌≡◌, ◌≢◌, ℕ, ◌+◌, ◌<◌, ◌≤◌, ◌==◌, zero, suc, true, false, map, refl, ap, ◌∙◌, sym, subst}
use Rattle.std.proofs.Common.{arith, eq-eqb}
use Rattle.std.proofs.lemmas.Bool.{ne_eqb}
use Rattle.std.specs.List.{position_or_len, range_with_len}
use Rattle.peak_costs.specs.FirstGreatest.{first_greatest, greatest}

-- values of which none is above a bound
greatest_at_most : (f : ℕ → ℕ) (n from most : ℕ) → ((k : ℕ) → k < n → f (from + k) ≤ most)
    → greatest (map f (range_with_len from n)) ≤ most
greatest_at_most f zero from most within = omega arith
greatest_at_most f (suc n) from most within =
    let first : f from ≤ most = subst (λ i. f i ≤ most) (omega arith) (within 0 (omega arith)) in
    let rest : greatest (map f (range_with_len (from + 1) n)) ≤ most =
    greatest_at_most f n (from + 1) most
    (λ k below. subst (λ i. f i ≤ most) (omega arith) (within (suc k) (omega arith))) in
    omega (arith, first, rest)

-- a value that stands among them
greatest_at_least : (f : ℕ → ℕ) (n from k : ℕ) → k < n → f (from + k) ≤ greatest (map f (range_with_len from n))
greatest_at_least f zero from k below = absurd (omega arith)
greatest_at_least f (suc n) from zero below =
    let first : f (from + 0) ≡ f from = ap f (omega arith) in
    omega (arith, first)
greatest_at_least f (suc n) from (suc k) below =
    let same : f (from + suc k) ≡ f ((from + 1) + k) = ap f (omega arith) in
    let rest : f ((from + 1) + k) ≤ greatest (map f (range_with_len (from + 1) n)) =
    greatest_at_least f n (from + 1) k (omega arith) in
    omega (arith, same, rest)

-- the first place of a value
place_of : (f : ℕ → ℕ) (value n from place : ℕ) → place < n → f (from + place) ≡ value
    → ((k : ℕ) → k < place → f (from + k) ≢ value)
    → position_or_len (λ other. other == value) (map f (range_with_len from n)) ≡ place
place_of f value zero from place below is before = absurd (omega arith)
place_of f value (suc n) from zero below is before =
    let first : f from ≡ f (from + 0) = ap f (omega arith) in
    let same : (f from == value) ≡ true = eq-eqb (f from) value (first ∙ is) in
    rw same refl
place_of f value (suc n) from (suc place) below is before =
    let first : f from ≢ value = subst (λ i. f i ≢ value) (omega arith) (before 0 (omega arith)) in
    let other : (f from == value) ≡ false = ne_eqb (f from) value first in
    let rest : position_or_len (λ other. other == value) (map f (range_with_len (from + 1) n)) ≡ place =
    place_of f value n (from + 1) place (omega arith) (subst (λ i. f i ≡ value) (omega arith) is)
    (λ k early. subst (λ i. f i ≢ value) (omega arith) (before (suc k) (omega arith))) in
    rw other (omega (arith, rest))

-- the greatest of the values of a function, where one stands that none is above
pub greatest_is : (f : ℕ → ℕ) (n place : ℕ) → place < n → ((k : ℕ) → k < n → f k ≤ f place)
    → greatest (map f (range_with_len 0 n)) ≡ f place
greatest_is f n place within at_most =
    let at : (k : ℕ) → f (0 + k) ≡ f k = λ k. ap f (omega arith) in
    let most : greatest (map f (range_with_len 0 n)) ≤ f place =
    greatest_at_most f n 0 (f place) (λ k below. subst (λ value. value ≤ f place) (sym (at k)) (at_most k below)) in
    let held : f (0 + place) ≤ greatest (map f (range_with_len 0 n)) = greatest_at_least f n 0 place within in
    omega (arith, most, held, at place)

-- and the least number that it stands at is its first place
pub first_greatest_is : (f : ℕ → ℕ) (n place : ℕ) → place < n → ((k : ℕ) → k < n → f k ≤ f place)
    → ((k : ℕ) → k < place → f k < f place)
    → first_greatest (map f (range_with_len 0 n)) ≡ place
first_greatest_is f n place within at_most least =
    let at : (k : ℕ) → f (0 + k) ≡ f k = λ k. ap f (omega arith) in
    let value : greatest (map f (range_with_len 0 n)) ≡ f place = greatest_is f n place within at_most in
    place_of f (greatest (map f (range_with_len 0 n))) n 0 place within (at place ∙ sym value)
    (λ k early same. let less : f k < f place = least k early in omega (arith, less, same, value, at k))
