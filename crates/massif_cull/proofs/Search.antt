-- The first number of a range that passes two tests.
use Rattle.std.proofs.Common.{◌≡◌, ℕ, ◌+◌, ◌<◌, ◌≤◌, zero, suc, Bool, true, false, inl, inr, refl, sym, ap, subst}
use Rattle.std.proofs.Common.{arith}
use Rattle.std.specs.Prelude.{find, filter, Some}
use Rattle.std.specs.List.{list_all, range_with_len}
use Rattle.std.proofs.lemmas.Bool.{cases_Bool, cases_eq}

-- it is found where none before it passes both
pub find-filter :
    (g p : ℕ → Bool) (n a r : ℕ)
    → a ≤ r
    → r < a + n
    → g r ≡ true
    → p r ≡ true
    → ((k : ℕ) → a ≤ k → k < r → g k ≡ true → p k ≡ false)
    → find p (filter g (range_with_len a n)) ≡ Some r
find-filter g p zero a r low high here passes before = absurd (omega arith)
find-filter g p (suc n) a r low high here passes before =
    elim (cases_eq a r) [
      | inl same ↦
          let kept : g a ≡ true = subst (λ (k : ℕ). g k ≡ true) (sym same) here in
          let first : p a ≡ true = subst (λ (k : ℕ). p k ≡ true) (sym same) passes in
          rw (kept, first) (ap Some same)
      | inr apart ↦
          let rest : find p (filter g (range_with_len (a + 1) n)) ≡ Some r =
          find-filter g p n (a + 1) r (omega arith) (omega arith) here passes (λ k l h. before k (omega arith) h) in
          elim (cases_Bool (g a)) [
            | inl kept ↦
                let fails : p a ≡ false = before a (omega arith) (omega arith) kept in
                rw (kept, fails) rest
            | inr gone ↦ rw gone rest
          ]
    ]

-- a test holds of all that pass another
pub all-filter :
    (g q : ℕ → Bool) (n a : ℕ)
    → ((k : ℕ) → a ≤ k → k < a + n → g k ≡ true → q k ≡ true)
    → list_all q (filter g (range_with_len a n)) ≡ true
all-filter g q zero a each = refl
all-filter g q (suc n) a each =
    let rest : list_all q (filter g (range_with_len (a + 1) n)) ≡ true =
    all-filter g q n (a + 1) (λ k low high here. each k (omega arith) (omega arith) here) in
    elim (cases_Bool (g a)) [
      | inl kept ↦
          let first : q a ≡ true = each a (omega arith) (omega arith) kept in
          rw (kept, first) rest
      | inr gone ↦ rw gone rest
    ]

-- and of each of them
pub all-filter-at :
    (g q : ℕ → Bool) (n a k : ℕ)
    → list_all q (filter g (range_with_len a n)) ≡ true
    → a ≤ k
    → k < a + n
    → g k ≡ true
    → q k ≡ true
all-filter-at g q zero a k all low high here = absurd (omega arith)
all-filter-at g q (suc n) a k all low high here =
    elim (cases_eq a k) [
      | inl same ↦
          let kept : g a ≡ true = subst (λ (k : ℕ). g k ≡ true) (sym same) here in
          let both = rw kept at all in
          let first : q a ≡ true = grind (arith, both) in
          subst (λ (k : ℕ). q k ≡ true) same first
      | inr apart ↦
          let rest : list_all q (filter g (range_with_len (a + 1) n)) ≡ true =
          elim (cases_Bool (g a)) [
            | inl kept ↦ let both = rw kept at all in grind (arith, both)
            | inr gone ↦ rw gone at all
          ]
          in
          all-filter-at g q n (a + 1) k rest (omega arith) (omega arith) here
    ]
