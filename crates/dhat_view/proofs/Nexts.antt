-- The fronts that are one text longer than a front: what the small ones are, and that the others
-- have lines of their own.
use Rattle.std.proofs.Common.{◌≡◌, ◌≢◌, ℕ, zero, suc, ◌+◌, ◌*◌, ◌<◌, ◌≤◌, true, false, not, Bool, List, [], ◌∷◌, ◌++◌}
use Rattle.std.proofs.Common.{length, filter, get_or, cond, inl, inr, refl, sym, ap, ◌∙◌, subst, arith, IsPermutation}
use Rattle.std.specs.Prelude.{All, AllPairs, Contains, nat_lt}
use Rattle.std.proofs.lemmas.Bool.{both_ways, cases_Bool, cond_both, false_from_ne_true, le-ltb, lt-ltb, ltb-true}
use Rattle.std.proofs.lemmas.List.{length_push}
use Rattle.std.proofs.lemmas.List.Elements.{All-filter, All-weaker, Contains-append_right, filter_passes}
use Rattle.std.proofs.lemmas.List.Kept.{AllPairs-filter}
use Rattle.std.proofs.lemmas.List.Sorted.{All-permutation, Contains-permutation, IsPermutation-cons}
use Rattle.std.proofs.lemmas.List.Sorted.{IsPermutation-middle, IsPermutation-refl, IsPermutation-sym}
use Rattle.std.proofs.lemmas.List.Sorted.{IsPermutation-trans}
use Rattle.std.proofs.lemmas.Map.Keys.{IsDistinct-IsPermutation}
use Rattle.std.proofs.lemmas.Map.Made.{AllPairs-from_IsDistinct, IsDistinct-from_AllPairs}
use Rattle.cost_tree.specs.declared.scale.Scale.{Scale}
use Rattle.cost_tree.specs.Costed.{Costed}
use Rattle.cost_tree.specs.CostLines.{cost_of, is_small, kept_fronts, last_of, small_fronts}
use Rattle.cost_tree.specs.Inclusive.{inclusive, is_front}
use Rattle.cost_tree.specs.NextFronts.{next_fronts}
use Rattle.cost_tree.specs.Order.{before_cheaper, by_cost}
use Rattle.cost_tree.proofs.Laws.{is_front-Decides, kept-all, kept-apart, kept-held, kept-next, kept-some}
use Rattle.dhat_view.specs.AreViewSums.{AreSmallNexts}

-- What is put in order is the same elements.

before_cheaper-moved : {X : Type 0} (cost : X → ℕ) (x : X) (ys : List X)
    → IsPermutation (x ∷ ys) (before_cheaper cost x ys)
before_cheaper-moved cost x [] = IsPermutation-refl (x ∷ [])
before_cheaper-moved cost x (y ∷ ys) =
    cond_both (nat_lt (cost x) (cost y)) (y ∷ before_cheaper cost x ys) (x ∷ y ∷ ys) (IsPermutation (x ∷ y ∷ ys))
    (λ costlier. IsPermutation-trans (x ∷ y ∷ ys) (y ∷ x ∷ ys) (y ∷ before_cheaper cost x ys)
    (IsPermutation-middle (x ∷ []) y ys)
    (IsPermutation-cons y (x ∷ ys) (before_cheaper cost x ys) (before_cheaper-moved cost x ys)))
    (λ cheaper. IsPermutation-refl (x ∷ y ∷ ys))

by_cost-moved : {X : Type 0} (cost : X → ℕ) (xs : List X) → IsPermutation xs (by_cost cost xs)
by_cost-moved cost [] = IsPermutation-refl []
by_cost-moved cost (x ∷ xs) =
    IsPermutation-trans (x ∷ xs) (x ∷ by_cost cost xs) (by_cost cost (x ∷ xs))
    (IsPermutation-cons x xs (by_cost cost xs) (by_cost-moved cost xs))
    (before_cheaper-moved cost x (by_cost cost xs))

-- Where the threshold is 0, the fronts with lines are all that are one text longer: so what holds
-- of those holds of these.

abbrev whole : Scale
whole = record { total = 0; threshold = 0 }

filter-all : {X : Type 0} (p : X → Bool) (xs : List X) → ((x : X) → p x ≡ true) → filter p xs ≡ xs
filter-all p [] each = refl
filter-all {X} p (x ∷ xs) each =
    ap (λ (b : Bool). cond {A = List X} b (x ∷ filter p xs) (filter p xs)) (each x)
    ∙ ap (λ (ys : List X). x ∷ ys) (filter-all p xs each)

none-small : (cost : ℕ) → is_small whole cost ≡ false
none-small cost = le-ltb (10000 * cost) (0 * 0) (omega arith)

whole-moved : (stacks : List Costed) (front : List (List ℕ))
    → IsPermutation (kept_fronts whole stacks front) (next_fronts front stacks)
unfolding kept_fronts
whole-moved stacks front =
    let kept : List (List ℕ) → Bool = λ next. not (is_small whole (cost_of stacks next)) in
    IsPermutation-sym (next_fronts front stacks) (kept_fronts whole stacks front)
    (subst (λ (xs : List (List (List ℕ))). IsPermutation xs (kept_fronts whole stacks front))
    (filter-all kept (next_fronts front stacks) (λ next. ap not (none-small (cost_of stacks next))))
    (by_cost-moved (cost_of stacks) (filter kept (next_fronts front stacks))))

abbrev GoesOn : List (List ℕ) → List (List ℕ) → Type 0
GoesOn front next = next ≡ front ++ last_of next ∷ []

next-goes_on : (stacks : List Costed) (front : List (List ℕ)) → All (GoesOn front) (next_fronts front stacks)
next-goes_on stacks front =
    All-permutation (GoesOn front) (kept_fronts whole stacks front) (next_fronts front stacks)
    (whole-moved stacks front) (kept-next whole stacks front refl)

next-some : (stacks : List Costed) (front : List (List ℕ))
    → All (λ (next : List (List ℕ)). 0 < inclusive next stacks) (next_fronts front stacks)
next-some stacks front =
    All-permutation (λ (next : List (List ℕ)). 0 < inclusive next stacks) (kept_fronts whole stacks front)
    (next_fronts front stacks) (whole-moved stacks front) (kept-some whole stacks front refl)

next-held : (stacks : List Costed) (front next : List (List ℕ)) (text : List ℕ) → next ≡ front ++ text ∷ []
    → 0 < inclusive next stacks → Contains (next_fronts front stacks) next
next-held stacks front next text is some =
    Contains-permutation (kept_fronts whole stacks front) (next_fronts front stacks) next (whole-moved stacks front)
    (kept-held whole stacks front next text refl is some)

moved-apart : (xs ys : List (List (List ℕ))) → IsPermutation xs ys → AllPairs (λ earlier later. earlier ≢ later) xs
    → AllPairs (λ earlier later. earlier ≢ later) ys
moved-apart xs ys moved apart =
    AllPairs-from_IsDistinct is_front-Decides ys
    (IsDistinct-IsPermutation is_front turned xs ys moved (IsDistinct-from_AllPairs is_front-Decides xs apart))
  where
    turned : (a b : List (List ℕ)) → is_front a b ≡ is_front b a
    turned a b =
        elim (cases_Bool (is_front a b)) [
          | inl is ↦ is ∙ sym ((is_front-Decides b a).1 (sym ((is_front-Decides a b).0 is)))
          | inr other ↦ other
              ∙ sym
              (false_from_ne_true (is_front b a)
              (λ is. both_ways _ other ((is_front-Decides a b).1 (sym ((is_front-Decides b a).0 is)))))
        ]

next-apart : (stacks : List Costed) (front : List (List ℕ))
    → AllPairs (λ earlier later. earlier ≢ later) (next_fronts front stacks)
next-apart stacks front =
    moved-apart (kept_fronts whole stacks front) (next_fronts front stacks) (whole-moved stacks front)
    (kept-apart whole stacks front refl)

-- Of both parts.

Contains-filter : {X : Type 0} (p : X → Bool) (xs : List X) (x : X) → Contains xs x → p x ≡ true
    → Contains (filter p xs) x
Contains-filter {X} p xs x held passes = at xs held.0 held.1 held.2
  where
    at : (ys : List X) (k : ℕ) → k < length ys → get_or ys k x ≡ x → Contains (filter p ys) x
    at [] k within is = absurd (omega arith)
    at (y ∷ ys) zero within is =
        cond_both (p y) (y ∷ filter p ys) (filter p ys) (λ zs. Contains zs x)
        (λ yes'. (0, omega arith, is))
        (λ other. absurd (both_ways _ other (ap p is ∙ passes)))
    at (y ∷ ys) (suc k) within is =
        let later = at ys k (omega arith) is in
        cond_both (p y) (y ∷ filter p ys) (filter p ys) (λ zs. Contains zs x)
        (λ yes'. Contains-append_right (y ∷ []) (filter p ys) x later)
        (λ other. later)

pub kept-goes_on : (scale : Scale) (stacks : List Costed) (front : List (List ℕ))
    → All (λ (next : List (List ℕ)). next ≡ front ++ last_of next ∷ []) (kept_fronts scale stacks front)
kept-goes_on scale stacks front = kept-all (GoesOn front) scale stacks front (next-goes_on stacks front)

pub kept-longer : (scale : Scale) (stacks : List Costed) (front : List (List ℕ))
    → All (λ (next : List (List ℕ)). length next ≡ length front + 1) (kept_fronts scale stacks front)
kept-longer scale stacks front =
    All-weaker (GoesOn front) (λ (next : List (List ℕ)). length next ≡ length front + 1)
    (λ next is. ap (λ (xs : List (List ℕ)). length xs) is ∙ length_push front (last_of next))
    (kept_fronts scale stacks front) (kept-goes_on scale stacks front)

pub kept-apart-all : (scale : Scale) (stacks : List Costed) (front : List (List ℕ))
    → AllPairs (λ earlier later. earlier ≢ later) (kept_fronts scale stacks front)
unfolding kept_fronts
kept-apart-all scale stacks front =
    let kept : List (List ℕ) → Bool = λ next. not (is_small scale (cost_of stacks next)) in
    moved-apart (filter kept (next_fronts front stacks)) (kept_fronts scale stacks front)
    (by_cost-moved (cost_of stacks) (filter kept (next_fronts front stacks)))
    (AllPairs-filter (λ earlier later. earlier ≢ later) kept (next_fronts front stacks) (next-apart stacks front))

pub kept-there : (scale : Scale) (stacks : List Costed) (front next : List (List ℕ)) (text : List ℕ)
    → next ≡ front ++ text ∷ [] → 0 < inclusive next stacks
    → scale.threshold * scale.total ≤ 10000 * inclusive next stacks → Contains (kept_fronts scale stacks front) next
unfolding kept_fronts
kept-there scale stacks front next text is some large =
    let kept : List (List ℕ) → Bool = λ other. not (is_small scale (cost_of stacks other)) in
    Contains-permutation (filter kept (next_fronts front stacks)) (kept_fronts scale stacks front) next
    (by_cost-moved (cost_of stacks) (filter kept (next_fronts front stacks)))
    (Contains-filter kept (next_fronts front stacks) next (next-held stacks front next text is some)
    (ap not (le-ltb (10000 * inclusive next stacks) (scale.threshold * scale.total) large)))

pub are-small : (scale : Scale) (stacks : List Costed) (front : List (List ℕ))
    → AreSmallNexts scale stacks front (small_fronts scale stacks front)
unfolding small_fronts
are-small scale stacks front = record {
  each = λ k d within. record {
    longer = All-filter small (GoesOn front) nexts (next-goes_on stacks front) k d within;
    more_than_0 =
        All-filter small (λ (next : List (List ℕ)). 0 < inclusive next stacks) nexts
        (next-some stacks front) k d within;
    small = ltb-true _ _ (filter_passes small nexts k d within);
  };
  all =
      λ next is. Contains-filter small nexts next (next-held stacks front next (last_of next) is.longer is.more_than_0)
      (lt-ltb _ _ is.small);
  once = AllPairs-filter (λ earlier later. earlier ≢ later) small nexts (next-apart stacks front);
}
  where
    small : List (List ℕ) → Bool
    small next = is_small scale (cost_of stacks next)

    nexts : List (List (List ℕ))
    nexts = next_fronts front stacks
