-- The fronts that are one text longer than a front: what each is, that no two are one, and that all are there.
use Rattle.std.proofs.Common.{◌≡◌, ◌≢◌, ℕ, zero, suc, ◌+◌, ◌-◌, ◌*◌, ◌<◌, ◌≤◌, true, false, inl, inr, not, Bool, List}
use Rattle.std.proofs.Common.{[], ◌∷◌, ◌++◌, length, map, filter, take, get_or, cond, refl, sym, ap, ◌∙◌, subst, arith}
use Rattle.std.proofs.Common.{IsPermutation}
use Rattle.std.specs.Prelude.{All, AllPairs, Contains, nat_lt}
use Rattle.std.specs.List.{range_with_len}
use Rattle.std.proofs.lemmas.Bool.{cases_Bool, false_from_ne_true, both_ways}
use Rattle.std.proofs.lemmas.Bool.Decides.{nat_tests}
use Rattle.std.proofs.lemmas.List.{get_or-map, length-map, take_all, take_more}
use Rattle.std.proofs.lemmas.List.Elements.{All-head, All-map, All-nil, All-tail, All-take, All-weaker}
use Rattle.std.proofs.lemmas.List.Sorted.{All-permutation, Contains-permutation}
use Rattle.std.proofs.lemmas.Map.Keys.{IsDistinct-IsPermutation, IsDistinct-from_apart, apart_from_distinct}
use Rattle.cost_tree.specs.declared.scale.Scale.{Scale}
use Rattle.cost_tree.specs.Costed.{Costed}
use Rattle.cost_tree.specs.CostLines.{cost_of, is_small, kept_fronts, last_of, small_fronts}
use Rattle.cost_tree.specs.Inclusive.{inclusive, is_front, least}
use Rattle.cost_tree.specs.NextFronts.{longer_front, next_fronts, opens, texts_at}
use Rattle.cost_tree.proofs.Ascending.{mapped-to}
use Rattle.cost_tree.proofs.Siblings.{Opens, opened-is, opens-is}
use Rattle.cost_tree.proofs.Linking.{contains_ranged, ordered, ranged}
use Rattle.cost_tree.proofs.Orders.{by_cost-permutation}
use Rattle.cost_tree.proofs.Prefixes.{is_front-Decides}

-- a front that goes on from another by one text, and costs something
pub record IsLonger (front : List (List ℕ)) (stacks : List Costed) (next : List (List ℕ)) : Type 0 where
  pub is : next ≡ front ++ last_of next ∷ []
  pub some : 0 < inclusive next stacks

longer-is : (front next : List (List ℕ)) → length next ≡ length front + 1 → front ≡ take (length front) next
    → next ≡ front ++ last_of next ∷ []
longer-is front next count begins =
    let at : (k : ℕ) → List (List ℕ) = λ k. front ++ get_or next k [] ∷ [] in
    sym (take_all (length front + 1) next (omega arith))
    ∙ take_more next (length front) [] (omega arith)
    ∙ ap (λ (xs : List (List ℕ)). xs ++ get_or next (length front) [] ∷ []) (sym begins)
    ∙ ap at (let last : length front ≡ length next - 1 = omega arith in last)

-- the stacks that open them
opening : (front : List (List ℕ)) (stacks : List Costed)
    → All (Opens front stacks) (filter (opens front stacks) (range_with_len 0 (length stacks)))
opening front stacks =
    All-weaker (λ n. (0 ≤ n) × ((n < 0 + length stacks) × (opens front stacks n ≡ true))) (Opens front stacks)
    (λ n passes. opens-is front stacks n (omega (arith, passes.1.0)) passes.1.1)
    (filter (opens front stacks) (range_with_len 0 (length stacks)))
    (ranged (opens front stacks) 0 (length stacks))

pub next-longer : (front : List (List ℕ)) (stacks : List Costed)
    → All (IsLonger front stacks) (next_fronts front stacks)
unfolding next_fronts
next-longer front stacks =
    let places : List ℕ = filter (opens front stacks) (range_with_len 0 (length stacks)) in
    All-map (IsLonger front stacks) (longer_front front stacks) places
    (All-weaker (Opens front stacks) (λ n. IsLonger front stacks (longer_front front stacks n))
    (λ n is. record { is = longer-is front (longer_front front stacks n) is.count is.begins; some = is.some }) places
    (opening front stacks))

pub next-apart : (front : List (List ℕ)) (stacks : List Costed)
    → AllPairs (λ earlier later. earlier ≢ later) (next_fronts front stacks)
unfolding next_fronts
next-apart front stacks i j d before within = λ same.
    let ns : List ℕ = filter (opens front stacks) (range_with_len 0 (length stacks)) in
    let count = length-map ns (longer_front front stacks) in
    let one = get_or-map (longer_front front stacks) ns i 0 d (omega arith) in
    let two = get_or-map (longer_front front stacks) ns j 0 d (omega arith) in
    let up = ordered (opens front stacks) 0 (length stacks) i j 0 before (omega arith) in
    let first = (opening front stacks i 0 (omega arith)).least_is in
    let second = (opening front stacks j 0 (omega arith)).least_is in
    let equal : least (longer_front front stacks (get_or ns i 0)) stacks
    ≡ least (longer_front front stacks (get_or ns j 0)) stacks =
    ap (λ (xs : List (List ℕ)). least xs stacks) (sym one ∙ same ∙ two) in
    omega arith

pub next-all : (front next : List (List ℕ)) (text : List ℕ) (stacks : List Costed) → next ≡ front ++ text ∷ []
    → 0 < inclusive next stacks → Contains (next_fronts front stacks) next
unfolding next_fronts
next-all front next text stacks is some =
    let places : List ℕ = filter (opens front stacks) (range_with_len 0 (length stacks)) in
    let opened = opened-is front next text stacks is some in
    let held =
    contains_ranged (opens front stacks) 0 (length stacks) (least next stacks) (omega arith)
    (omega (arith, opened.within)) opened.opened in
    let P : List (List ℕ) → Type 0 = λ xs. Contains (map (longer_front front stacks) places) xs in
    subst P opened.is (mapped-to (longer_front front stacks) places (least next stacks) held)

-- their texts are those of the stacks
stack-texts : (P : List ℕ → Type 0) (stacks : List Costed) (n : ℕ) → All (λ (stack : Costed). All P stack.texts) stacks
    → All P (texts_at stacks n)
stack-texts P [] n all = All-nil P
stack-texts P (stack ∷ stacks) zero all = All-head (λ (s : Costed). All P s.texts) stack stacks all
stack-texts P (stack ∷ stacks) (suc n) all =
    stack-texts P stacks n (All-tail (λ (s : Costed). All P s.texts) stack stacks all)

pub next-texts : (P : List ℕ → Type 0) (front : List (List ℕ)) (stacks : List Costed)
    → All (λ (stack : Costed). All P stack.texts) stacks → All (All P) (next_fronts front stacks)
unfolding next_fronts
next-texts P front stacks all =
    let places : List ℕ = filter (opens front stacks) (range_with_len 0 (length stacks)) in
    All-map (All P) (longer_front front stacks) places
    (λ k d within. All-take P (length front + 1) (texts_at stacks (get_or places k d))
    (stack-texts P stacks (get_or places k d) all))

-- where the threshold is 0, none is too small
none-small : (scale : Scale) (cost : ℕ) → scale.threshold ≡ 0 → is_small scale cost ≡ false
none-small scale cost all =
    ap (λ (t : ℕ). nat_lt (10000 * cost) (t * scale.total)) all
    ∙ (let no_less : nat_lt (10000 * cost) (0 * scale.total) ≡ false = grind (arith, nat_tests) in no_less)

filter-all : {X : Type 0} (p : X → Bool) (xs : List X) → ((x : X) → p x ≡ true) → filter p xs ≡ xs
filter-all p [] each = refl
filter-all {X} p (x ∷ xs) each =
    ap (λ (b : Bool). cond {A = List X} b (x ∷ filter p xs) (filter p xs)) (each x)
    ∙ ap (λ (ys : List X). x ∷ ys) (filter-all p xs each)

filter-none : {X : Type 0} (p : X → Bool) (xs : List X) → ((x : X) → p x ≡ false) → filter p xs ≡ []
filter-none p [] each = refl
filter-none {X} p (x ∷ xs) each =
    ap (λ (b : Bool). cond {A = List X} b (x ∷ filter p xs) (filter p xs)) (each x) ∙ filter-none p xs each

pub small-none : (scale : Scale) (stacks : List Costed) (front : List (List ℕ)) → scale.threshold ≡ 0
    → small_fronts scale stacks front ≡ []
unfolding small_fronts
small-none scale stacks front all =
    filter-none (λ (next : List (List ℕ)). is_small scale (cost_of stacks next)) (next_fronts front stacks)
    (λ next. none-small scale (cost_of stacks next) all)

kept-moved : (scale : Scale) (stacks : List Costed) (front : List (List ℕ)) → scale.threshold ≡ 0
    → IsPermutation (next_fronts front stacks) (kept_fronts scale stacks front)
unfolding kept_fronts
kept-moved scale stacks front all =
    let kept : List (List ℕ) → Bool = λ next. not (is_small scale (cost_of stacks next)) in
    subst (λ (xs : List (List (List ℕ))). IsPermutation xs (kept_fronts scale stacks front))
    (filter-all kept (next_fronts front stacks) (λ next. ap not (none-small scale (cost_of stacks next) all)))
    (by_cost-permutation (cost_of stacks) (filter kept (next_fronts front stacks)))

-- and all have lines of their own
pub kept-longer : (scale : Scale) (stacks : List Costed) (front : List (List ℕ)) → scale.threshold ≡ 0
    → All (IsLonger front stacks) (kept_fronts scale stacks front)
kept-longer scale stacks front all =
    All-permutation (IsLonger front stacks) (next_fronts front stacks) (kept_fronts scale stacks front)
    (kept-moved scale stacks front all) (next-longer front stacks)

pub kept-held : (scale : Scale) (stacks : List Costed) (front next : List (List ℕ)) (text : List ℕ)
    → scale.threshold ≡ 0 → next ≡ front ++ text ∷ [] → 0 < inclusive next stacks
    → Contains (kept_fronts scale stacks front) next
kept-held scale stacks front next text all is some =
    Contains-permutation (next_fronts front stacks) (kept_fronts scale stacks front) next
    (kept-moved scale stacks front all) (next-all front next text stacks is some)

pub kept-apart : (scale : Scale) (stacks : List Costed) (front : List (List ℕ)) → scale.threshold ≡ 0
    → AllPairs (λ earlier later. earlier ≢ later) (kept_fronts scale stacks front)
kept-apart scale stacks front all i j d before within = λ same.
    (let first = IsDistinct-from_apart is_front (next_fronts front stacks)
    (λ m n e less inside. differ _ _ (next-apart front stacks m n e less inside)) in
    let moved =
    IsDistinct-IsPermutation is_front turned (next_fronts front stacks) (kept_fronts scale stacks front)
    (kept-moved scale stacks front all) first in
    both_ways _ (apart_from_distinct is_front (kept_fronts scale stacks front) i j d moved before within)
    ((is_front-Decides _ _).1 same))
  where
    differ : (a b : List (List ℕ)) → a ≢ b → is_front a b ≡ false
    differ a b apart = false_from_ne_true (is_front a b) (λ is. apart ((is_front-Decides a b).0 is))

    turned : (a b : List (List ℕ)) → is_front a b ≡ is_front b a
    turned a b =
        elim (cases_Bool (is_front a b)) [
          | inl is ↦ is ∙ sym ((is_front-Decides b a).1 (sym ((is_front-Decides a b).0 is)))
          | inr other ↦ other ∙ sym (differ b a (λ same. both_ways _ other ((is_front-Decides a b).1 (sym same))))
        ]
