-- A front costs its own cost and what the fronts one text longer cost.
use Rattle.std.proofs.Common.{◌≡◌, ◌≢◌, ℕ, zero, suc, ◌+◌, ◌<◌, ◌≤◌, inl, inr, true, false, if◌then◌else◌, List, []}
use Rattle.std.proofs.Common.{◌∷◌, ◌++◌, length, take, get_or, refl, sym, ap, ◌∙◌, arith}
use Rattle.std.specs.Prelude.{All, AllPairs, Contains, sum_by}
use Rattle.std.proofs.lemmas.Bool.{true≢false, cases_Bool, cases_lt, false_from_ne_true, cond-true, cond-false}
use Rattle.std.proofs.lemmas.List.{length-take, length_push, take-append-le, take-take, take_all, take_more}
use Rattle.std.proofs.lemmas.List.Elements.{All-head, All-tail, All-weaker}
use Rattle.std.proofs.lemmas.List.Sums.{get_or-le-sum_by, sum_by-cons}
use Rattle.cost_tree.specs.Costed.{Costed}
use Rattle.cost_tree.specs.Inclusive.{has_front, inclusive, is_front, own}
use Rattle.cost_tree.specs.CostLines.{last_of}
use Rattle.cost_tree.specs.NextFronts.{next_fronts}
use Rattle.cost_tree.proofs.Nexts.{IsLonger, next-all, next-apart, next-longer}
use Rattle.cost_tree.proofs.Prefixes.{has_front-Decides, is_front-Decides, is_front-has}
use Rattle.cost_tree.proofs.Sums.{inclusive-some}

-- a front that is one text longer
record IsNext (front next : List (List ℕ)) : Type 0 where
  pub count : length next ≡ length front + 1
  pub begins : front ≡ take (length front) next

-- what a stack adds to the cost of a front
abbrev counted : Costed → List (List ℕ) → ℕ
counted stack front = if has_front front stack.texts then stack.cost else 0

-- a stack that begins with a longer front begins with the front
front-of : (front next texts : List (List ℕ)) → IsNext front next → has_front next texts ≡ true
    → has_front front texts ≡ true
front-of front next texts is has =
    let count = is.count in
    (has_front-Decides front texts).1
    (is.begins
    ∙ ap (λ (xs : List (List ℕ)). take (length front) xs) ((has_front-Decides next texts).0 has)
    ∙ take-take (length front) (length next) texts (omega arith))

-- and with no other longer front
one-next : (front next other texts : List (List ℕ)) → IsNext front next → IsNext front other → next ≢ other
    → has_front next texts ≡ true → has_front other texts ≡ false
one-next front next other texts is is' apart has =
    false_from_ne_true (has_front other texts) (λ has'.
    apart ((has_front-Decides next texts).0 has
    ∙ ap (λ (k : ℕ). take k texts) (is.count ∙ sym is'.count)
    ∙ sym ((has_front-Decides other texts).0 has')))

-- it adds nothing to those that it doesn't begin with
none-counted : (stack : Costed) (nexts : List (List (List ℕ))) → All (λ next. has_front next stack.texts ≡ false) nexts
    → sum_by (counted stack) nexts ≡ 0
none-counted stack [] all = refl
none-counted stack (next ∷ rest) all =
    let first =
    cond-false (has_front next stack.texts) stack.cost 0
    (All-head (λ f. has_front f stack.texts ≡ false) next rest all) in
    let later = none-counted stack rest (All-tail (λ f. has_front f stack.texts ≡ false) next rest all) in
    let both = sum_by-cons (counted stack) next rest in
    omega arith

-- it adds to one of some different longer fronts at most
one-counted : (front : List (List ℕ)) (stack : Costed) (nexts : List (List (List ℕ))) → All (IsNext front) nexts
    → AllPairs (λ earlier later. earlier ≢ later) nexts
    → sum_by (counted stack) nexts ≤ counted stack front
one-counted front stack [] all apart = omega arith
one-counted front stack (next ∷ rest) all apart =
    let is = All-head (IsNext front) next rest all in
    let rests = All-tail (IsNext front) next rest all in
    let both = sum_by-cons (counted stack) next rest in
    elim (cases_Bool (has_front next stack.texts)) [
      | inl has ↦
          let here = cond-true (has_front next stack.texts) stack.cost 0 has in
          let whole = cond-true (has_front front stack.texts) stack.cost 0 (front-of front next stack.texts is has) in
          let others : All (λ other. has_front other stack.texts ≡ false) rest =
          λ k d within. one-next front next (get_or rest k d) stack.texts is (rests k d within)
          (apart zero (suc k) d (omega arith) (omega arith)) has in
          let later = none-counted stack rest others in
          omega arith
      | inr other ↦
          let here = cond-false (has_front next stack.texts) stack.cost 0 other in
          let later =
          one-counted front stack rest rests
          (λ i j d before within. apart (suc i) (suc j) d (omega arith) (omega arith)) in
          omega arith
    ]

-- sums of sums
sum-both : {X : Type 0} (f g h : X → ℕ) (xs : List X) → ((x : X) → h x ≡ f x + g x)
    → sum_by h xs ≡ sum_by f xs + sum_by g xs
sum-both f g h [] each = refl
sum-both f g h (x ∷ xs) each =
    let one = sum_by-cons f x xs in
    let two = sum_by-cons g x xs in
    let three = sum_by-cons h x xs in
    let here = each x in
    let rest = sum-both f g h xs each in
    omega arith

sum-nothing : {X : Type 0} (xs : List X) → sum_by (λ (x : X). 0) xs ≡ 0
sum-nothing [] = refl
sum-nothing {X} (x ∷ xs) =
    let one = sum_by-cons (λ (y : X). 0) x xs in
    let rest = sum-nothing xs in
    omega arith

-- what a stack adds to a front's own cost
abbrev owned : Costed → List (List ℕ) → ℕ
owned stack front = if is_front front stack.texts then stack.cost else 0

-- a stack with a cost that goes on behind the front begins with one of the longer fronts
abbrev Covers : List (List ℕ) → List (List (List ℕ)) → Costed → Type 0
Covers front nexts stack =
    0 < stack.cost → has_front front stack.texts ≡ true → length front < length stack.texts
    → Contains nexts (take (length front + 1) stack.texts)

-- the texts of a list behind its front are one more than the front's
length-next : (front texts : List (List ℕ)) → length front < length texts
    → length (take (length front + 1) texts) ≡ length front + 1
length-next front texts goes_on = let count = length-take (length front + 1) texts in omega arith

has_next : (front texts : List (List ℕ)) → length front < length texts
    → has_front (take (length front + 1) texts) texts ≡ true
has_next front texts goes_on =
    (has_front-Decides (take (length front + 1) texts) texts).1
    (sym (ap (λ (k : ℕ). take k texts) (length-next front texts goes_on)))

-- a stack that doesn't begin with the front isn't the front, nor is one that goes on behind it
not-front : (front texts : List (List ℕ)) → has_front front texts ≡ false → is_front front texts ≡ false
not-front front texts other =
    false_from_ne_true (is_front front texts) (λ is. true≢false (sym (is_front-has front texts is) ∙ other))

not-longer : (front texts : List (List ℕ)) → length front < length texts → is_front front texts ≡ false
not-longer front texts goes_on =
    false_from_ne_true (is_front front texts) (λ is.
    let same = ap (λ (xs : List (List ℕ)). length xs) ((is_front-Decides front texts).0 is) in
    absurd (omega arith))

-- a stack with a cost is counted by the longer front that it begins with
one-covered : (front : List (List ℕ)) (stack : Costed) (nexts : List (List (List ℕ)))
    → length front < length stack.texts → Contains nexts (take (length front + 1) stack.texts)
    → stack.cost ≤ sum_by (counted stack) nexts
one-covered front stack nexts goes_on held =
    let next : List (List ℕ) = take (length front + 1) stack.texts in
    let least : counted stack (get_or nexts held.0 next) ≤ sum_by (counted stack) nexts =
    get_or-le-sum_by (counted stack) nexts held.0 next held.1 in
    let here : counted stack next ≡ stack.cost =
    cond-true (has_front next stack.texts) stack.cost 0 (has_next front stack.texts goes_on) in
    let same : counted stack (get_or nexts held.0 next) ≡ counted stack next =
    ap (λ (f : List (List ℕ)). counted stack f) held.2 in
    omega arith

-- what a stack adds to the front it adds to the front's own cost, or to one of the longer fronts
one-whole : (front : List (List ℕ)) (stack : Costed) (nexts : List (List (List ℕ))) → All (IsNext front) nexts
    → AllPairs (λ earlier later. earlier ≢ later) nexts → Covers front nexts stack
    → counted stack front ≡ owned stack front + sum_by (counted stack) nexts
one-whole front stack nexts all apart covers =
    let most = one-counted front stack nexts all apart in
    elim (cases_Bool (has_front front stack.texts)) [
      | inr other ↦
          let none : counted stack front ≡ 0 = cond-false (has_front front stack.texts) stack.cost 0 other in
          let not_own : owned stack front ≡ 0 =
          cond-false (is_front front stack.texts) stack.cost 0 (not-front front stack.texts other) in
          omega arith
      | inl has ↦
          let whole : counted stack front ≡ stack.cost = cond-true (has_front front stack.texts) stack.cost 0 has in
          elim (cases_lt (length front) (length stack.texts)) [
            | inl goes_on ↦
                let not_own : owned stack front ≡ 0 =
                cond-false (is_front front stack.texts) stack.cost 0 (not-longer front stack.texts goes_on) in
                elim (cases_lt 0 stack.cost) [
                  | inl above ↦ let most' =
                      one-covered front stack nexts goes_on (covers above has goes_on) in omega arith
                  | inr nothing ↦ omega arith
                ]
            | inr ends ↦
                let same : front ≡ stack.texts =
                (has_front-Decides front stack.texts).0 has ∙ take_all (length front) stack.texts (omega arith) in
                let is_own : owned stack front ≡ stack.cost =
                cond-true (is_front front stack.texts) stack.cost 0 ((is_front-Decides front stack.texts).1 same) in
                let later = none-counted stack nexts (too_long ends) in
                omega arith
          ]
    ]
  where
    too_long : length stack.texts ≤ length front → All (λ next. has_front next stack.texts ≡ false) nexts
    too_long ends k d within =
        false_from_ne_true (has_front (get_or nexts k d) stack.texts) (λ has.
        let count = (all k d within).count in
        let cut = length-take (length (get_or nexts k d)) stack.texts in
        let same = ap (λ (xs : List (List ℕ)). length xs) ((has_front-Decides (get_or nexts k d) stack.texts).0 has) in
        absurd (omega arith))

-- the fronts all together
nexts-whole : (front : List (List ℕ)) (nexts : List (List (List ℕ))) (stacks : List Costed) → All (IsNext front) nexts
    → AllPairs (λ earlier later. earlier ≢ later) nexts → All (Covers front nexts) stacks
    → inclusive front stacks ≡ own front stacks + sum_by (λ next. inclusive next stacks) nexts
unfolding inclusive own
nexts-whole front nexts [] all apart covered =
    let none = sum-nothing nexts in
    omega arith
nexts-whole front nexts (stack ∷ stacks) all apart covered =
    let here = one-whole front stack nexts all apart (All-head (Covers front nexts) stack stacks covered) in
    let rest = nexts-whole front nexts stacks all apart (All-tail (Covers front nexts) stack stacks covered) in
    let each = sum-both (counted stack) (λ next. inclusive next stacks) (λ next. inclusive next (stack ∷ stacks)) nexts
    (λ next. sum_by-cons (λ (s : Costed). counted s next) stack stacks) in
    let whole = sum_by-cons (λ (s : Costed). counted s front) stack stacks in
    let owns = sum_by-cons (λ (s : Costed). owned s front) stack stacks in
    omega arith

pub next-whole : (front : List (List ℕ)) (stacks : List Costed)
    → inclusive front stacks ≡ own front stacks + sum_by (λ next. inclusive next stacks) (next_fronts front stacks)
next-whole front stacks = nexts-whole front (next_fronts front stacks) stacks are (next-apart front stacks) covered
  where
    longer : (next : List (List ℕ)) → IsLonger front stacks next → IsNext front next
    longer next is =
        let text : List ℕ = last_of next in
        record {
          count = ap (λ (xs : List (List ℕ)). length xs) is.is ∙ length_push front text;
          begins = sym (take_all (length front) front (omega arith))
              ∙ sym (take-append-le (length front) front (text ∷ []) (omega arith))
              ∙ ap (λ (xs : List (List ℕ)). take (length front) xs) (sym is.is);
        }

    are : All (IsNext front) (next_fronts front stacks)
    are =
        All-weaker (IsLonger front stacks) (IsNext front) (λ next is. longer next is) (next_fronts front stacks)
        (next-longer front stacks)

    covered : All (Covers front (next_fronts front stacks)) stacks
    covered k d within above has goes_on =
        let texts : List (List ℕ) = (get_or stacks k d).texts in
        let text : List ℕ = get_or texts (length front) [] in
        let next : List (List ℕ) = take (length front + 1) texts in
        let is : next ≡ front ++ text ∷ [] =
        take_more texts (length front) [] goes_on
        ∙ ap (λ (xs : List (List ℕ)). xs ++ text ∷ []) (sym ((has_front-Decides front texts).0 has)) in
        next-all front next text stacks is (inclusive-some next stacks k d within above (has_next front texts goes_on))
