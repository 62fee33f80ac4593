-- Lemmas on what stacks cost, as they become more or one becomes longer.
use Rattle.std.proofs.Common.{◌≡◌, ◌≢◌, ℕ, ◌+◌, ◌<◌, ◌≤◌, ◌⊎◌, inl, inr, Bool, true, false, ◌&&◌, not, cond, List, []}
use Rattle.std.proofs.Common.{◌∷◌, ◌++◌, drop, length, take, get_or, refl, sym, ap, ◌∙◌, subst, arith}
use Rattle.std.specs.Prelude.{sum_by, nat_lt, nat_eq}
use Rattle.std.proofs.lemmas.Bool.{cases_Bool, cases_lt, cond-true, cond-false, lt-ltb, and_right, and_from}
use Rattle.std.proofs.lemmas.Bool.{false_from_ne_true}
use Rattle.std.proofs.lemmas.Bool.Decides.{nat_tests}
use Rattle.std.proofs.lemmas.List.{length-take, take-append-drop, take-append-le, take-take, take_all}
use Rattle.std.proofs.lemmas.List.Sums.{get_or-le-sum_by, sum_by-cons, sum_by_push, sum_by-le-sum_by}
use Rattle.std.proofs.lemmas.List.Folds.{position_or_len_push}
use Rattle.cost_tree.specs.Costed.{Costed}
use Rattle.cost_tree.specs.Inclusive.{has_front, is_front, inclusive, own, least}
use Rattle.cost_tree.proofs.Prefixes.{has_front-Decides, has_front-take, has_front-longer, has_front-itself}
use Rattle.cost_tree.proofs.Prefixes.{has_front-more, is_front-has, is_front-Decides, same_or_not}

-- what one stack adds to a front's cost
unfoldable pub part : List (List ℕ) → Costed → ℕ
part front stack = cond (has_front front stack.texts) stack.cost 0

-- what one stack adds to a front's own cost
pub own_part : List (List ℕ) → Costed → ℕ
own_part front stack = cond (is_front front stack.texts) stack.cost 0

-- what all stacks cost
unfoldable pub total : List Costed → ℕ
total stacks = sum_by (λ stack. stack.cost) stacks

-- one stack more
pub inclusive-push : (front : List (List ℕ)) (stacks : List Costed) (stack : Costed)
    → inclusive front (stacks ++ stack ∷ []) ≡ inclusive front stacks + part front stack
unfolding inclusive part
inclusive-push front stacks stack = sum_by_push (λ s. cond (has_front front s.texts) s.cost 0) stacks stack

pub own-push : (front : List (List ℕ)) (stacks : List Costed) (stack : Costed)
    → own front (stacks ++ stack ∷ []) ≡ own front stacks + own_part front stack
unfolding own own_part
own-push front stacks stack = sum_by_push (λ s. cond (is_front front s.texts) s.cost 0) stacks stack

pub total-push : (stacks : List Costed) (stack : Costed) → total (stacks ++ stack ∷ []) ≡ total stacks + stack.cost
unfolding total
total-push stacks stack = sum_by_push (λ (s : Costed). s.cost) stacks stack

-- the first stack and the others
inclusive-cons : (front : List (List ℕ)) (stack : Costed) (stacks : List Costed)
    → inclusive front (stack ∷ stacks) ≡ part front stack + inclusive front stacks
unfolding inclusive part
inclusive-cons front stack stacks = sum_by-cons (λ s. cond (has_front front s.texts) s.cost 0) stack stacks

-- what a stack adds
pub part-has : (front : List (List ℕ)) (stack : Costed) → has_front front stack.texts ≡ true
    → part front stack ≡ stack.cost
unfolding part
part-has front stack has = cond-true (has_front front stack.texts) stack.cost 0 has

pub part-other : (front : List (List ℕ)) (stack : Costed) → has_front front stack.texts ≡ false → part front stack ≡ 0
unfolding part
part-other front stack other = cond-false (has_front front stack.texts) stack.cost 0 other

part-same : (front texts others : List (List ℕ)) (cost : ℕ) → has_front front texts ≡ has_front front others
    → part front (record { texts = texts; cost = cost }) ≡ part front (record { texts = others; cost = cost })
unfolding part
part-same front texts others cost same = ap (λ (b : Bool). cond b cost 0) same

pub part-le : (front : List (List ℕ)) (stack : Costed) → part front stack ≤ stack.cost
part-le front stack =
    elim (cases_Bool (has_front front stack.texts)) [
      | inl has ↦ let e = part-has front stack has in omega arith
      | inr other ↦ let e = part-other front stack other in omega arith
    ]

own_part-le : (front : List (List ℕ)) (stack : Costed) → own_part front stack ≤ part front stack
unfolding own_part
own_part-le front stack =
    elim (cases_Bool (is_front front stack.texts)) [
      | inl is ↦
          let whole : own_part front stack ≡ stack.cost = cond-true (is_front front stack.texts) stack.cost 0 is in
          let same = part-has front stack (is_front-has front stack.texts is) in
          omega arith
      | inr other ↦ let none : own_part front stack ≡ 0 =
          cond-false (is_front front stack.texts) stack.cost 0 other in omega arith
    ]

-- a stack that begins with a front and costs something makes the front cost something
pub inclusive-some : (front : List (List ℕ)) (stacks : List Costed) (n : ℕ) (d : Costed) → n < length stacks
    → 0 < (get_or stacks n d).cost → has_front front (get_or stacks n d).texts ≡ true → 0 < inclusive front stacks
unfolding inclusive
inclusive-some front stacks n d within above has =
    let adds : cond (has_front front (get_or stacks n d).texts) (get_or stacks n d).cost 0 ≡ (get_or stacks n d).cost =
    cond-true (has_front front (get_or stacks n d).texts) (get_or stacks n d).cost 0 has in
    let most : cond (has_front front (get_or stacks n d).texts) (get_or stacks n d).cost 0
    ≤ sum_by (λ (s : Costed). cond (has_front front s.texts) s.cost 0) stacks =
    get_or-le-sum_by (λ (s : Costed). cond (has_front front s.texts) s.cost 0) stacks n d within in
    omega arith

-- a stack is one of those that `least` looks for, or it adds nothing
counts : List (List ℕ) → Costed → Bool
counts front stack = nat_lt 0 stack.cost && has_front front stack.texts

counts-cases : (front : List (List ℕ)) (stack : Costed)
    → ((counts front stack ≡ true) × (0 < part front stack)) ⊎ ((counts front stack ≡ false) × (part front stack ≡ 0))
unfolding counts
counts-cases front stack =
    elim (cases_Bool (has_front front stack.texts)) [
      | inl has ↦ elim (cases_lt 0 stack.cost) [
        | inl above ↦ let e =
            part-has front stack has in inl
            (and_from (nat_lt 0 stack.cost) (has_front front stack.texts) (lt-ltb 0 stack.cost above) has, omega arith)
        | inr none ↦ let e = part-has front stack has in inr (grind (arith, nat_tests), omega arith)
      ]
      | inr other ↦ inr
          (and_right (nat_lt 0 stack.cost) (has_front front stack.texts) other, part-other front stack other)
    ]

-- the least stack, by its cases
least-cons : (front : List (List ℕ)) (stack : Costed) (stacks : List Costed)
    → least front (stack ∷ stacks) ≡ cond (not (counts front stack)) (1 + least front stacks) 0
unfolding least counts
least-cons front stack stacks = refl

least-push : (front : List (List ℕ)) (stacks : List Costed) (stack : Costed)
    → least front (stacks ++ stack ∷ [])
    ≡ cond (nat_eq (least front stacks) (length stacks)) (length stacks + cond (counts front stack) 0 1)
    (least front stacks)
unfolding least counts
least-push front stacks stack =
    position_or_len_push (λ (s : Costed). nat_lt 0 s.cost && has_front front s.texts) stacks stack

-- a front that costs something has a least stack
pub least-within : (front : List (List ℕ)) (stacks : List Costed) → 0 < inclusive front stacks
    → least front stacks < length stacks
unfolding inclusive
least-within front [] some = absurd (omega arith)
least-within front (stack ∷ stacks) some =
    let sum = inclusive-cons front stack stacks in
    let first = least-cons front stack stacks in
    elim (counts-cases front stack) [
      | inl here ↦ let at : least front (stack ∷ stacks) ≡ 0 =
          first ∙ ap (λ (b : Bool). cond (not b) (1 + least front stacks) 0) here.0 in omega arith
      | inr later ↦
          let at : least front (stack ∷ stacks) ≡ 1 + least front stacks =
          first ∙ ap (λ (b : Bool). cond (not b) (1 + least front stacks) 0) later.0 in
          let rest = least-within front stacks (omega arith) in
          omega arith
    ]

-- a front that costs nothing has none
pub least-none : (front : List (List ℕ)) (stacks : List Costed) → inclusive front stacks ≡ 0
    → least front stacks ≡ length stacks
unfolding least
least-none front [] none = refl
least-none front (stack ∷ stacks) none =
    let sum = inclusive-cons front stack stacks in
    let first = least-cons front stack stacks in
    elim (counts-cases front stack) [
      | inl here ↦ absurd (omega arith)
      | inr later ↦
          let at : least front (stack ∷ stacks) ≡ 1 + least front stacks =
          first ∙ ap (λ (b : Bool). cond (not b) (1 + least front stacks) 0) later.0 in
          let rest = least-none front stacks (omega arith) in
          omega arith
    ]

-- a least stack stays, and a stack that comes is the least where there was none
pub least-push_old : (front : List (List ℕ)) (stacks : List Costed) (stack : Costed) → 0 < inclusive front stacks
    → least front (stacks ++ stack ∷ []) ≡ least front stacks
least-push_old front stacks stack some =
    let within = least-within front stacks some in
    let push = least-push front stacks stack in
    grind (arith, nat_tests)

pub least-push_new : (front : List (List ℕ)) (stacks : List Costed) (stack : Costed) → inclusive front stacks ≡ 0
    → 0 < part front stack → least front (stacks ++ stack ∷ []) ≡ length stacks
least-push_new front stacks stack none some =
    let before = least-none front stacks none in
    let push = least-push front stacks stack in
    elim (counts-cases front stack) [
      | inl here ↦
          let add : ◌≡◌ {A = ℕ} (cond (counts front stack) 0 1) 0 = cond-true (counts front stack) 0 1 here.0 in
          grind (arith, nat_tests)
      | inr none' ↦ absurd (omega arith)
    ]

-- the sum over all stacks bounds each front's
pub inclusive-le-total : (front : List (List ℕ)) (stacks : List Costed) → inclusive front stacks ≤ total stacks
unfolding inclusive total part
inclusive-le-total front stacks =
    sum_by-le-sum_by (λ s. cond (has_front front s.texts) s.cost 0) (λ (s : Costed). s.cost) stacks
    (λ s. part-le front s)

pub own-le-inclusive : (front : List (List ℕ)) (stacks : List Costed) → own front stacks ≤ inclusive front stacks
unfolding inclusive own part own_part
own-le-inclusive front stacks =
    sum_by-le-sum_by (λ s. cond (is_front front s.texts) s.cost 0) (λ s. cond (has_front front s.texts) s.cost 0) stacks
    (λ s. own_part-le front s)

-- a stack in the place of another that its fronts have too
least-instead : (front : List (List ℕ)) (stacks : List Costed) (before after : Costed)
    → (0 < part front before → 0 < part front after)
    → 0 < inclusive front (stacks ++ before ∷ [])
    → least front (stacks ++ after ∷ []) ≡ least front (stacks ++ before ∷ [])
least-instead front stacks before after keeps some =
    let sum = inclusive-push front stacks before in
    elim (cases_lt 0 (inclusive front stacks)) [
      | inl old ↦ least-push_old front stacks after old ∙ sym (least-push_old front stacks before old)
      | inr none ↦
          let here : 0 < part front before = omega arith in
          least-push_new front stacks after (omega arith) (keeps here)
          ∙ sym (least-push_new front stacks before (omega arith) here)
    ]

-- the one front `at` costs so much more, and where it cost nothing, its least stack is this one
pub record AddsAt (at : List (List ℕ)) (cost stack : ℕ) (old new : List Costed) : Type 0 where
  pub sum : inclusive at new ≡ inclusive at old + cost
  pub others : (front : List (List ℕ)) → front ≢ at → inclusive front new ≡ inclusive front old
  pub first : inclusive at old ≡ 0 → least at new ≡ stack
  pub kept : (front : List (List ℕ)) → 0 < inclusive front old → least front new ≡ least front old

-- a stack without texts adds nothing to any other front
pub part-empty : (front : List (List ℕ)) (cost : ℕ) → front ≢ [] → part front (record { texts = []; cost = cost }) ≡ 0
part-empty [] cost other = absurd (other refl)
part-empty (text ∷ front) cost other =
    part-other (text ∷ front) (record { texts = []; cost = cost })
    (has_front-longer (text ∷ front) [] 0 (omega arith))

-- the empty front is that of a stack that begins
pub AddsAt-begin : (stacks : List Costed) (cost : ℕ) → 0 < cost
    → AddsAt [] cost (length stacks) stacks (stacks ++ record { texts = []; cost = cost } ∷ [])
AddsAt-begin stacks cost above =
    let stack : Costed = record { texts = []; cost = cost } in
    let whole : part [] stack ≡ cost = part-has [] stack (has_front-itself []) in
    let sums : (front : List (List ℕ))
    → inclusive front (stacks ++ stack ∷ []) ≡ inclusive front stacks + part front stack =
    λ front. inclusive-push front stacks stack in
    record {
      sum = let push = sums [] in omega arith;
      others = λ front other. let none = part-empty front cost other in let push = sums front in omega arith;
      first = λ none. least-push_new [] stacks stack none (omega arith);
      kept = λ front some. least-push_old front stacks stack some;
    }

-- one text more of a stack is one front more
pub AddsAt-more : (stacks : List Costed) (texts : List (List ℕ)) (cost j : ℕ) → 0 < cost → j < length texts
    → AddsAt (take (j + 1) texts) cost (length stacks) (stacks ++ record { texts = take j texts; cost = cost } ∷ [])
    (stacks ++ record { texts = take (j + 1) texts; cost = cost } ∷ [])
AddsAt-more stacks texts cost j above within =
    let at : List (List ℕ) = take (j + 1) texts in
    let before : Costed = record { texts = take j texts; cost = cost } in
    let after : Costed = record { texts = take (j + 1) texts; cost = cost } in
    let longer : has_front at (take j texts) ≡ false =
    has_front-longer at texts j (let count = length-take (j + 1) texts in omega arith) in
    let none : part at before ≡ 0 = part-other at before longer in
    let whole : part at after ≡ cost = part-has at after (has_front-itself at) in
    let olds : (front : List (List ℕ))
    → inclusive front (stacks ++ before ∷ []) ≡ inclusive front stacks + part front before =
    λ front. inclusive-push front stacks before in
    let news : (front : List (List ℕ))
    → inclusive front (stacks ++ after ∷ []) ≡ inclusive front stacks + part front after =
    λ front. inclusive-push front stacks after in
    record {
      sum = let old = olds at in let new = news at in omega arith;
      others =
          λ front other. let old = olds front in let new = news front in let same = same_part front other in omega
          arith;
      first = λ none'. let old = olds at in least-push_new at stacks after (omega arith) (omega arith);
      kept = λ front some. least-instead front stacks before after (λ has. keeps front has) some;
    }
  where
    same_part : (front : List (List ℕ)) → front ≢ take (j + 1) texts
        → part front (record { texts = take (j + 1) texts; cost = cost })
        ≡ part front (record { texts = take j texts; cost = cost })
    same_part front other =
        part-same front (take (j + 1) texts) (take j texts) cost (has_front-more front texts j within other)

    keeps : (front : List (List ℕ)) → 0 < part front (record { texts = take j texts; cost = cost })
        → 0 < part front (record { texts = take (j + 1) texts; cost = cost })
    keeps front has =
        elim (same_or_not front (take (j + 1) texts)) [
          | inl is ↦
              let P : List (List ℕ) → Type 0 = λ xs. 0 < part xs (record { texts = take (j + 1) texts; cost = cost }) in
              let whole =
              part-has (take (j + 1) texts) (record { texts = take (j + 1) texts; cost = cost })
              (has_front-itself (take (j + 1) texts)) in
              subst P (sym is) (omega arith)
          | inr other ↦ let same = same_part front other in omega arith
        ]

-- fronts of at most so many texts cost the same, and have the same least stacks
pub record SameTo (depth : ℕ) (old new : List Costed) : Type 0 where
  pub sum : (front : List (List ℕ)) → length front ≤ depth → inclusive front new ≡ inclusive front old
  pub kept : (front : List (List ℕ)) → length front ≤ depth → 0 < inclusive front old
      → least front new ≡ least front old

-- a stack's texts beyond the depth are in no front
pub SameTo-end : (stacks : List Costed) (texts : List (List ℕ)) (cost depth : ℕ)
    → SameTo depth (stacks ++ record { texts = take depth texts; cost = cost } ∷ [])
    (stacks ++ record { texts = texts; cost = cost } ∷ [])
SameTo-end stacks texts cost depth =
    let before : Costed = record { texts = take depth texts; cost = cost } in
    let after : Costed = record { texts = texts; cost = cost } in
    record {
      sum =
          λ front short. let old = inclusive-push front stacks before in let new = inclusive-push front stacks
          after in let same = same_part front short in omega arith;
      kept =
          λ front short some. least-instead front stacks before after
          (λ has. let same = same_part front short in omega arith) some;
    }
  where
    same_part : (front : List (List ℕ)) → length front ≤ depth
        → part front (record { texts = texts; cost = cost })
        ≡ part front (record { texts = take depth texts; cost = cost })
    same_part front short = part-same front texts (take depth texts) cost (sym (has_front-take front texts depth short))

-- a stack that costs nothing changes nothing
pub part-free : (front texts : List (List ℕ)) → part front (record { texts = texts; cost = 0 }) ≡ 0
part-free front texts = let most = part-le front (record { texts = texts; cost = 0 }) in omega arith

pub SameTo-free : (stacks : List Costed) (texts : List (List ℕ)) (depth : ℕ)
    → SameTo depth stacks (stacks ++ record { texts = texts; cost = 0 } ∷ [])
SameTo-free stacks texts depth = record {
  sum =
      λ front short. let push = inclusive-push front stacks (record { texts = texts; cost = 0 }) in let none = part-free
      front texts in omega arith;
  kept = λ front short some. least-push_old front stacks (record { texts = texts; cost = 0 }) some;
}

pub own-free : (front : List (List ℕ)) (stacks : List Costed) (texts : List (List ℕ))
    → own front (stacks ++ record { texts = texts; cost = 0 } ∷ []) ≡ own front stacks
own-free front stacks texts =
    let push = own-push front stacks (record { texts = texts; cost = 0 }) in
    let most = own_part-le front (record { texts = texts; cost = 0 }) in
    let none = part-free front texts in
    omega arith

-- a stack adds its cost to its own front and to no other
pub own-push_same : (stacks : List Costed) (texts : List (List ℕ)) (cost : ℕ)
    → own texts (stacks ++ record { texts = texts; cost = cost } ∷ []) ≡ own texts stacks + cost
unfolding own_part
own-push_same stacks texts cost =
    own-push texts stacks (record { texts = texts; cost = cost })
    ∙ ap (λ (n : ℕ). own texts stacks + n)
    (cond-true (is_front texts texts) cost 0 ((is_front-Decides texts texts).1 refl))

pub own-push_other : (front : List (List ℕ)) (stacks : List Costed) (texts : List (List ℕ)) (cost : ℕ) → front ≢ texts
    → own front (stacks ++ record { texts = texts; cost = cost } ∷ []) ≡ own front stacks
unfolding own_part
own-push_other front stacks texts cost other =
    let push = own-push front stacks (record { texts = texts; cost = cost }) in
    let none : own_part front (record { texts = texts; cost = cost }) ≡ 0 =
    cond-false (is_front front texts) cost 0
    (false_from_ne_true (is_front front texts) (λ is. other ((is_front-Decides front texts).0 is))) in
    omega arith

-- the empty front costs what all stacks cost
pub inclusive-all : (stacks : List Costed) → inclusive [] stacks ≡ sum_by (λ (s : Costed). s.cost) stacks
unfolding inclusive
inclusive-all [] = refl
inclusive-all (stack ∷ stacks) =
    let one = inclusive-cons [] stack stacks in
    let here = part-has [] stack ((has_front-Decides [] stack.texts).1 refl) in
    let two : sum_by (λ (s : Costed). s.cost) (stack ∷ stacks) ≡ stack.cost + sum_by (λ (s : Costed). s.cost) stacks =
    sum_by-cons (λ (s : Costed). s.cost) stack stacks in
    let rest = inclusive-all stacks in
    omega arith

-- no front costs more than all stacks
pub inclusive-within : (front : List (List ℕ)) (stacks : List Costed)
    → inclusive front stacks ≤ sum_by (λ (s : Costed). s.cost) stacks
unfolding total
inclusive-within front stacks = inclusive-le-total front stacks

-- a list that begins with a longer front begins with the front
begins-shorter : (front more texts : List (List ℕ)) → has_front (front ++ more) texts ≡ true
    → has_front front texts ≡ true
begins-shorter front more texts has =
    let long = length-append' front more in
    (has_front-Decides front texts).1
    (sym (take_all (length front) front (omega arith))
    ∙ sym (take-append-le (length front) front more (omega arith))
    ∙ ap (λ (xs : List (List ℕ)). take (length front) xs) ((has_front-Decides (front ++ more) texts).0 has)
    ∙ take-take (length front) (length (front ++ more)) texts (omega arith))
  where
    length-append' : (xs ys : List (List ℕ)) → length xs ≤ length (xs ++ ys)
    length-append' [] ys = omega arith
    length-append' (x ∷ xs) ys = let rest = length-append' xs ys in omega arith

-- a longer front costs no more
pub inclusive-longer : (front more : List (List ℕ)) (stacks : List Costed)
    → inclusive (front ++ more) stacks ≤ inclusive front stacks
unfolding inclusive
inclusive-longer front more [] = omega arith
inclusive-longer front more (stack ∷ stacks) =
    let rest = inclusive-longer front more stacks in
    let one = sum_by-cons (λ (s : Costed). cond {A = ℕ} (has_front (front ++ more) s.texts) s.cost 0) stack stacks in
    let two = sum_by-cons (λ (s : Costed). cond {A = ℕ} (has_front front s.texts) s.cost 0) stack stacks in
    elim (cases_Bool (has_front (front ++ more) stack.texts)) [
      | inl has ↦
          let here = cond-true (has_front (front ++ more) stack.texts) stack.cost 0 has in
          let whole =
          cond-true (has_front front stack.texts) stack.cost 0 (begins-shorter front more stack.texts has) in
          omega arith
      | inr other ↦ let none = cond-false (has_front (front ++ more) stack.texts) stack.cost 0 other in omega arith
    ]

-- a front of a front that costs something costs something
pub inclusive-shorter : (front longer : List (List ℕ)) (stacks : List Costed) → has_front front longer ≡ true
    → 0 < inclusive longer stacks → 0 < inclusive front stacks
inclusive-shorter front longer stacks has some =
    let rest : List (List ℕ) = drop (length front) longer in
    let is : front ++ rest ≡ longer =
    ap (λ (xs : List (List ℕ)). xs ++ rest) ((has_front-Decides front longer).0 has)
    ∙ take-append-drop (length front) longer in
    let most = inclusive-longer front rest stacks in
    let P : List (List ℕ) → Type 0 = λ xs. 0 < inclusive xs stacks in
    let here : 0 < inclusive (front ++ rest) stacks = subst P (sym is) some in
    omega arith
