-- Lists that are long enough for lines where each costs 1 and two of them have one: what is left of each goes on alone.
use Rattle.std.proofs.Common.{◌≡◌, ◌≢◌, ℕ, zero, suc, ◌+◌, ◌*◌, ◌≤◌, inl, inr, Bool, true, cond, List, [], ◌∷◌, length}
use Rattle.std.proofs.Common.{replicate, take, Some, refl, ap, ◌∙◌, arith}
use Rattle.std.specs.Prelude.{slice_get}
use Rattle.std.proofs.lemmas.Bool.{cases_eq, ltb-true}
use Rattle.std.proofs.lemmas.Option.{none-some, same_Some}
use Rattle.cost_tree.specs.declared.scale.Scale.{Scale}
use Rattle.cost_tree.specs.Alone.{AreAlone}
use Rattle.cost_tree.specs.Costed.{Costed, costed}
use Rattle.cost_tree.specs.Cuts.{AreEnough}
use Rattle.cost_tree.specs.Inclusive.{has_front, inclusive}
use Rattle.cost_tree.proofs.Heads.{inclusive-cons}
use Rattle.cost_tree.proofs.Alone.{has-first}

-- what lists cost that begin with a front: a list's 1, and those of two lists
abbrev ones : List (List (List ℕ)) → List Costed
ones lists = costed lists (replicate (length lists) 1)

first-adds : (front list : List (List ℕ)) (lists : List (List (List ℕ)))
    → inclusive front (ones (list ∷ lists)) ≡ cond {A = ℕ} (has_front front list) 1 0 + inclusive front (ones lists)
unfolding costed
first-adds front list lists = inclusive-cons front (record { texts = list; cost = 1 }) (ones lists)

-- so a first one that begins with the front costs 1
first-has : (front texts list : List (List ℕ)) (lists : List (List (List ℕ)))
    → slice_get (list ∷ lists) 0 ≡ Some texts → has_front front texts ≡ true
    → inclusive front (ones (list ∷ lists)) ≡ 1 + inclusive front (ones lists)
first-has front texts list lists at has =
    first-adds front list lists
    ∙ ap (λ (xs : List (List ℕ)). cond {A = ℕ} (has_front front xs) 1 0 + inclusive front (ones lists))
    (same_Some list texts at)
    ∙ ap (λ (b : Bool). cond {A = ℕ} b 1 0 + inclusive front (ones lists)) has

one-begins : (front texts : List (List ℕ)) (lists : List (List (List ℕ))) (n : ℕ) → slice_get lists n ≡ Some texts
    → has_front front texts ≡ true → 1 ≤ inclusive front (ones lists)
one-begins front texts [] n at has = absurd (none-some texts at)
one-begins front texts (list ∷ lists) zero at has = let first = first-has front texts list lists at has in omega arith
one-begins front texts (list ∷ lists) (suc n) at has =
    let adds = first-adds front list lists in
    let rest = one-begins front texts lists n at has in
    omega arith

two-begin : (front texts other : List (List ℕ)) (lists : List (List (List ℕ))) (n k : ℕ)
    → slice_get lists n ≡ Some texts → slice_get lists k ≡ Some other → has_front front texts ≡ true
    → has_front front other ≡ true → k ≢ n
    → 2 ≤ inclusive front (ones lists)
two-begin front texts other [] n k at other_at has other_has apart = absurd (none-some texts at)
two-begin front texts other (list ∷ lists) zero zero at other_at has other_has apart = absurd (apart refl)
two-begin front texts other (list ∷ lists) zero (suc k) at other_at has other_has apart =
    let first = first-has front texts list lists at has in
    let rest = one-begins front other lists k other_at other_has in
    omega arith
two-begin front texts other (list ∷ lists) (suc n) zero at other_at has other_has apart =
    let first = first-has front other list lists other_at other_has in
    let rest = one-begins front texts lists n at has in
    omega arith
two-begin front texts other (list ∷ lists) (suc n) (suc k) at other_at has other_has apart =
    let adds = first-adds front list lists in
    let rest =
    two-begin front texts other lists n k at other_at has other_has (λ same. apart (ap (λ (m : ℕ). suc m) same)) in
    omega arith

-- by this a cost of 1 is too small for a line, and one of 2 isn't
abbrev pub shared : Scale
shared = record { total = 1; threshold = 20000 }

-- so counts that are enough for lines leave each list alone
pub alone-from : (lists : List (List (List ℕ))) (counts : List ℕ)
    → ((depth : ℕ) → AreEnough depth shared (ones lists) lists counts) → AreAlone lists counts
alone-from lists counts enough n k count texts other at count_at more other_at has =
    elim (cases_eq k n) [
      | inl same ↦ same
      | inr apart ↦
          let front : List (List ℕ) = take count texts in
          let is = (enough (length texts)).each n count texts at count_at in
          elim (is.rest more) [
            | inl deep ↦ absurd (omega arith)
            | inr small ↦
                let less = ltb-true (10000 * inclusive front (ones lists)) (20000 * 1) small in
                let two = two-begin front texts other lists n k at other_at (has-first count texts) has apart in
                absurd (omega arith)
          ]
    ]
