-- Sums and greatest figures over the threads below a number.
use Rattle.std.proofs.Common.{◌≡◌, ℕ, zero, suc, ◌+◌, ◌<◌, ◌≤◌, ◌==◌, Bool, true, false, cond, refl, ap₂, arith}
use Rattle.std.proofs.lemmas.Bool.Decides.{nat_tests}
use Rattle.record_book.specs.Figures.{greatest_below, sum_below}

pub sum-same : (f g : ℕ → ℕ) (n : ℕ) → ((k : ℕ) → f k ≡ g k) → sum_below f n ≡ sum_below g n
sum-same f g zero same = refl
sum-same f g (suc n) same = ap₂ (λ (x y : ℕ). x + y) (sum-same f g n same) (same n)

pub sum-less : (f g : ℕ → ℕ) (n : ℕ) → ((k : ℕ) → f k ≤ g k) → sum_below f n ≤ sum_below g n
sum-less f g zero less = omega arith
sum-less f g (suc n) less = omega (arith, sum-less f g n less, less n)

pub sum-none : (n : ℕ) → sum_below (λ k. 0) n ≡ 0
sum-none zero = refl
sum-none (suc n) = omega (arith, sum-none n)

pub sum-add : (f g : ℕ → ℕ) (n : ℕ) → sum_below (λ k. f k + g k) n ≡ sum_below f n + sum_below g n
sum-add f g zero = refl
sum-add f g (suc n) = omega (arith, sum-add f g n)

-- a figure of one thread alone
one-past : (place x n : ℕ) → n ≤ place → sum_below (λ k. cond (place == k) x 0) n ≡ 0
one-past place x zero past = refl
one-past place x (suc n) past = by (one-past place x n (omega (arith, past))) (place == n) refl
  where
    by : sum_below (λ k. cond (place == k) x 0) n ≡ 0 → (b : Bool) → (place == n) ≡ b
        → sum_below (λ k. cond (place == k) x 0) n + cond b x 0 ≡ 0
    by rest true p = absurd (grind (arith, nat_tests, p, past))
    by rest false p = omega (arith, rest)

pub sum-one : (place x n : ℕ) → place < n → sum_below (λ k. cond (place == k) x 0) n ≡ x
sum-one place x zero within = absurd (omega (arith, within))
sum-one place x (suc n) within = by (λ less. sum-one place x n less) (place == n) refl
  where
    by : (place < n → sum_below (λ k. cond (place == k) x 0) n ≡ x) → (b : Bool) → (place == n) ≡ b
        → sum_below (λ k. cond (place == k) x 0) n + cond b x 0 ≡ x
    by rest true p =
        let same : place ≡ n = grind (arith, nat_tests, p) in
        omega (arith, one-past place x n (omega (arith, same)))
    by rest false p =
        let less : place < n = grind (arith, nat_tests, p, within) in
        omega (arith, rest less)

-- the first thread apart
pub sum-first : (f : ℕ → ℕ) (n : ℕ) → sum_below f (suc n) ≡ f 0 + sum_below (λ k. f (suc k)) n
sum-first f zero = omega arith
sum-first f (suc n) = omega (arith, sum-first f n)

pub greatest-less : (f : ℕ → ℕ) (n bound : ℕ) → ((k : ℕ) → f k ≤ bound) → greatest_below f n ≤ bound
greatest-less f zero bound less = omega arith
greatest-less f (suc n) bound less = omega (arith, greatest-less f n bound less, less n)
