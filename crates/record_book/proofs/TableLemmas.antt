-- Blocks that stand in a table, and others: one of the others is put in or taken out.
use Rattle.std.proofs.Common.{◌≡◌, ℕ, Bool, true, false, cond, List, length, get_or, Option, None, refl, sym, ap, ap₂}
use Rattle.std.proofs.Common.{◌∙◌, arith}
use Rattle.std.proofs.lemmas.Bool.Decides.{nat_tests}
use Rattle.record_book.specs.declared.live_blocks.LiveEntry.{LiveEntry}
use Rattle.record_book.specs.LiveBlocks.{found_in, is_low, place_of}
use Rattle.record_book.proofs.HeapLemmas.{same}

-- another ID isn't this one where it has no place
other-place : (len thread id t i : ℕ) → is_low len thread id ≡ true → is_low len t i ≡ false
    → same thread id t i ≡ false
other-place len thread id t i low high = by (same thread id t i) refl
  where
    by : (b : Bool) → same thread id t i ≡ b → b ≡ false
    by true is =
        let one : thread ≡ t = grind (arith, nat_tests, is) in
        let two : id ≡ i = grind (arith, nat_tests, is) in
        sym low ∙ ap₂ (λ (x y : ℕ). is_low len x y) one two ∙ high
    by false is = refl

-- one of the others
pub high-set : (low : List (Option LiveEntry)) (old new : ℕ → ℕ → Option LiveEntry) (thread id : ℕ)
    (entry : Option LiveEntry) → is_low (length low) thread id ≡ false
    → ((t i : ℕ) → new t i ≡ cond (same thread id t i) entry (old t i)) → (t i : ℕ)
    → found_in low new t i ≡ cond (same thread id t i) entry (found_in low old t i)
high-set low old new thread id entry here change t i = by (is_low (length low) t i) refl
  where
    turned : (a b c d : ℕ) → same a b c d ≡ same c d a b
    turned a b c d = grind (arith, nat_tests)

    by : (b : Bool) → is_low (length low) t i ≡ b
        → found_in low new t i ≡ cond (same thread id t i) entry (found_in low old t i)
    by true there =
        let other : same thread id t i ≡ false =
        turned thread id t i ∙ other-place (length low) t i thread id there here in
        rw (there, other) refl
    by false there = rw there (change t i)

-- the others stay
pub high-same : (low : List (Option LiveEntry)) (old new : ℕ → ℕ → Option LiveEntry)
    → ((t i : ℕ) → new t i ≡ old t i) → (t i : ℕ) → found_in low new t i ≡ found_in low old t i
high-same low old new same_high t i =
    ap (λ b. cond (is_low (length low) t i) (get_or low (place_of t i) None) b) (same_high t i)
