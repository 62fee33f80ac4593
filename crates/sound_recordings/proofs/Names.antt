-- The stacks that the numbers of a recording stand for.
use Rattle.std.proofs.Common.{◌≡◌, ◌≢◌, ℕ, ◌+◌, ◌==◌, Bool, true, false, cond, true≢false, List, [], ◌∷◌, length, refl}
use Rattle.std.proofs.Common.{sym, ap, ◌∙◌, arith}
use Rattle.std.specs.Str.{bytes_eq}
use Rattle.std.proofs.lemmas.Bool.Decides.{nat_tests}
use Rattle.std.proofs.lemmas.Slice.Eq.{bytes_eq-Decides}
use Rattle.record_scripts.specs.Events.{Event, allocation, free}
use Rattle.record_book.specs.NodeNumbers.{number_in, stacks_with, with_stack, with_suffixes}

-- each stack that is known is the one of its number, and the empty one that of 0
pub record AreNamed (stack_at : ℕ → List ℕ) (known : List (List ℕ)) : Type 0 where
  pub empty : stack_at 0 ≡ []
  pub none : number_in known [] ≡ 0
  pub stacks : (ips : List ℕ) → number_in known ips ≢ 0 → stack_at (number_in known ips) ≡ ips

pub named : (stack_at : ℕ → List ℕ) (known : List (List ℕ)) (ips : List ℕ) → AreNamed stack_at known
    → (ips ≢ [] → number_in known ips ≢ 0) → stack_at (number_in known ips) ≡ ips
named stack_at known [] are there = ap stack_at are.none ∙ are.empty
named stack_at known (ip ∷ outer) are there = are.stacks (ip ∷ outer) (there (λ e. absurd (cc)))

-- a stack is known once its suffixes are
pub suffix-known : (known : List (List ℕ)) (ips : List ℕ) → ips ≢ [] → number_in (with_suffixes known ips) ips ≢ 0
suffix-known known [] other = absurd (other refl)
suffix-known known (ip ∷ outer) other = by (number_in (with_suffixes known outer) (ip ∷ outer) == 0) refl
  where
    own : (b : Bool) → b ≡ true
        → cond b (length (with_suffixes known outer) + 1) (number_in (with_suffixes known outer) (ip ∷ outer)) ≢ 0
    own true p zero = omega (arith, zero)
    own false p zero = absurd (true≢false (sym p))

    by : (b : Bool) → (number_in (with_suffixes known outer) (ip ∷ outer) == 0) ≡ b
        → number_in (cond b ((ip ∷ outer) ∷ with_suffixes known outer) (with_suffixes known outer)) (ip ∷ outer) ≢ 0
    by true p = own (bytes_eq (ip ∷ outer) (ip ∷ outer)) ((bytes_eq-Decides (ip ∷ outer) (ip ∷ outer)).1 refl)
    by false p = λ zero. absurd (grind (arith, nat_tests, p, zero))

-- what is so of more stacks is so of fewer
named-stack : (stack_at : ℕ → List ℕ) (known : List (List ℕ)) (stack : List ℕ)
    → AreNamed stack_at (with_stack known stack) → AreNamed stack_at known
named-stack stack_at known stack are = by (number_in known stack == 0) refl are
  where
    none : (b : Bool) → cond b (length known + 1) (number_in known []) ≡ 0 → number_in known [] ≡ 0
    none true is = absurd (omega (arith, is))
    none false is = is

    at : number_in known stack ≡ 0 → (ips : List ℕ) (b : Bool) → bytes_eq stack ips ≡ b
        → (cond b (length known + 1) (number_in known ips) ≢ 0
        → stack_at (cond b (length known + 1) (number_in known ips)) ≡ ips)
        → number_in known ips ≢ 0 → stack_at (number_in known ips) ≡ ips
    at new ips true is stacks some =
        absurd (some (ap (number_in known) (sym ((bytes_eq-Decides stack ips).0 is)) ∙ new))
    at new ips false is stacks some = stacks some

    by : (b : Bool) → (number_in known stack == 0) ≡ b → AreNamed stack_at (cond b (stack ∷ known) known)
        → AreNamed stack_at known
    by true p are =
        let new : number_in known stack ≡ 0 = grind (arith, nat_tests, p) in
        record {
          empty = are.empty;
          none = none (bytes_eq stack []) are.none;
          stacks = λ ips. at new ips (bytes_eq stack ips) refl (are.stacks ips);
        }
    by false p are = are

named-suffixes : (stack_at : ℕ → List ℕ) (known : List (List ℕ)) (ips : List ℕ)
    → AreNamed stack_at (with_suffixes known ips) → AreNamed stack_at known
named-suffixes stack_at known [] are = are
named-suffixes stack_at known (ip ∷ outer) are =
    named-suffixes stack_at known outer (named-stack stack_at (with_suffixes known outer) (ip ∷ outer) are)

pub named-before : (stack_at : ℕ → List ℕ) (known : List (List ℕ)) (event : Event)
    → AreNamed stack_at (stacks_with known event) → AreNamed stack_at known
named-before stack_at known (allocation id size ips) are = named-suffixes stack_at known ips are
named-before stack_at known (free id rejoined) are = are
