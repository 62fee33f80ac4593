-- A front that one stack alone begins with: it has no more than one that is one text longer, and
-- its lines are one each.
use Rattle.std.proofs.Common.{◌≡◌, ◌≢◌, ℕ, zero, suc, ◌+◌, ◌-◌, ◌<◌, ◌≤◌, inl, inr, ◌&&◌, not, Bool, true, false, eqb}
use Rattle.std.proofs.Common.{cond, List, [], ◌∷◌, ◌++◌, length, map, filter, take, get_or, refl, sym, ap, ◌∙◌, subst}
use Rattle.std.proofs.Common.{append-nil, arith}
use Rattle.std.specs.Prelude.{All, AllPairs, Contains, nat_lt}
use Rattle.std.specs.List.{flat_map, range_with_len}
use Rattle.std.proofs.lemmas.Bool.{and_parts, both_ways, cases_Bool, cases_lt, false_from_ne_true, lt-ltb, ltb-true}
use Rattle.std.proofs.lemmas.List.{length-take, take-take, take_all, take_more}
use Rattle.std.proofs.lemmas.List.Elements.{All-weaker}
use Rattle.cost_tree.specs.declared.scale.Scale.{Scale}
use Rattle.cost_tree.specs.Costed.{Costed}
use Rattle.cost_tree.specs.CostLines.{FrontLine, a_front, cost_of, front_line, front_lines, gathered_lines, is_small}
use Rattle.cost_tree.specs.CostLines.{kept_fronts, last_of, small_fronts}
use Rattle.cost_tree.specs.Inclusive.{has_front, inclusive, least}
use Rattle.cost_tree.specs.NextFronts.{longer_front, next_fronts, texts_at}
use Rattle.cost_tree.specs.Order.{by_cost}
use Rattle.cost_tree.specs.Tails.{tail_line}
use Rattle.cost_tree.proofs.Heads.{inclusive-cons}
use Rattle.cost_tree.proofs.Siblings.{opened-is}
use Rattle.cost_tree.proofs.Firsts.{has-begun, one-longer}
use Rattle.cost_tree.proofs.Nexts.{IsLonger, next-all, next-apart, next-longer}
use Rattle.cost_tree.proofs.Prefixes.{has_front-itself, has_front-take}

-- stack n alone begins with the front, if one does
abbrev pub IsAlone : List Costed → List (List ℕ) → ℕ → Type 0
IsAlone stacks front n = (k : ℕ) → has_front front (texts_at stacks k) ≡ true → k ≡ n

-- a front that goes on from it is that stack's
next-of : (front next : List (List ℕ)) (stacks : List Costed) (n : ℕ) → IsAlone stacks front n
    → IsLonger front stacks next → next ≡ longer_front front stacks n
next-of front next stacks n alone is =
    let opened = opened-is front next (last_of next) stacks is.is is.some in
    let k : ℕ = least next stacks in
    let parts =
    and_parts (has_front front (texts_at stacks k) && nat_lt (length front) (length (texts_at stacks k)))
    (eqb (least (longer_front front stacks k) stacks) k) opened.opened in
    let has =
    (and_parts (has_front front (texts_at stacks k)) (nat_lt (length front) (length (texts_at stacks k)))
    parts.0).0 in
    sym opened.is ∙ ap (λ (m : ℕ). longer_front front stacks m) (alone k has)

all-none : {X : Type 0} (xs : List X) → All (λ x. ⊥) xs → xs ≡ []
all-none [] all = refl
all-none (x ∷ xs) all = absurd (all 0 x (omega arith))

only-one : {X : Type 0} (xs : List X) (x : X) → All (λ y. y ≡ x) xs → Contains xs x → AllPairs (λ a b. a ≢ b) xs
    → xs ≡ x ∷ []
only-one [] x all held apart = absurd (omega (arith, held.1))
only-one {X} (y ∷ []) x all held apart = ap (λ (z : X). z ∷ []) (all 0 y (omega arith))
only-one (y ∷ (z ∷ xs)) x all held apart =
    absurd (apart 0 1 y (omega arith) (omega arith) (all 0 y (omega arith) ∙ sym (all 1 y (omega arith))))

-- none where the stack has no more texts
pub next-none : (front : List (List ℕ)) (stacks : List Costed) (n : ℕ) → IsAlone stacks front n
    → length (texts_at stacks n) ≤ length front → next_fronts front stacks ≡ []
next-none front stacks n alone short =
    all-none (next_fronts front stacks)
    (All-weaker (IsLonger front stacks) (λ (next : List (List ℕ)). ⊥)
    (λ next is.
    let count = (one-longer front next stacks is).count in
    let same = ap (λ (xs : List (List ℕ)). length xs) (next-of front next stacks n alone is) in
    let first = length-take (length front + 1) (texts_at stacks n) in
    absurd (omega arith))
    (next_fronts front stacks) (next-longer front stacks))

-- and else one
pub next-one : (front : List (List ℕ)) (text : List ℕ) (stacks : List Costed) (n : ℕ) → IsAlone stacks front n
    → longer_front front stacks n ≡ front ++ text ∷ [] → 0 < inclusive (longer_front front stacks n) stacks
    → next_fronts front stacks ≡ longer_front front stacks n ∷ []
next-one front text stacks n alone longer some =
    only-one (next_fronts front stacks) (longer_front front stacks n)
    (All-weaker (IsLonger front stacks) (λ next. next ≡ longer_front front stacks n)
    (λ next is. next-of front next stacks n alone is) (next_fronts front stacks) (next-longer front stacks))
    (next-all front (longer_front front stacks n) text stacks longer some) (next-apart front stacks)

-- the lines of a front that none goes on from, and of one that one goes on from with a line of its own
pub lines-none : (more : ℕ) (scale : Scale) (front : List (List ℕ)) (stacks : List Costed)
    → next_fronts front stacks ≡ [] → front_lines (suc more) scale stacks front ≡ front_line 0 stacks front ∷ []
unfolding front_lines kept_fronts small_fronts gathered_lines
lines-none more scale front stacks none =
    let small : List (List ℕ) → Bool = λ next. is_small scale (cost_of stacks next) in
    let lines : List (List (List ℕ)) → List (List (List ℕ)) → List FrontLine =
    λ kept few. front_line (length kept + length (gathered_lines stacks (length front + 1) few)) stacks front
    ∷ (flat_map (front_lines more scale stacks) kept ++ gathered_lines stacks (length front + 1) few) in
    ap (λ (nexts : List (List (List ℕ))). lines (by_cost (cost_of stacks) (filter (λ next. not (small next)) nexts))
    (filter small nexts)) none

pub lines-one : (more : ℕ) (scale : Scale) (front next : List (List ℕ)) (stacks : List Costed)
    → next_fronts front stacks ≡ next ∷ [] → is_small scale (cost_of stacks next) ≡ false
    → front_lines (suc more) scale stacks front ≡ front_line 1 stacks front ∷ front_lines more scale stacks next
unfolding front_lines kept_fronts small_fronts gathered_lines
lines-one more scale front next stacks one large =
    let small : List (List ℕ) → Bool = λ x. is_small scale (cost_of stacks x) in
    let lines : List (List (List ℕ)) → List (List (List ℕ)) → List FrontLine =
    λ kept few. front_line (length kept + length (gathered_lines stacks (length front + 1) few)) stacks front
    ∷ (flat_map (front_lines more scale stacks) kept ++ gathered_lines stacks (length front + 1) few) in
    let below : List FrontLine = front_lines more scale stacks next in
    ap (λ (nexts : List (List (List ℕ))). lines (by_cost (cost_of stacks) (filter (λ x. not (small x)) nexts))
    (filter small nexts)) one
    ∙ ap (λ (b : Bool). lines (by_cost (cost_of stacks) (cond {A = List (List (List ℕ))} (not b) (next ∷ []) []))
    (cond {A = List (List (List ℕ))} b (next ∷ []) [])) large
    ∙ ap (λ (ls : List FrontLine). front_line 1 stacks front ∷ ls) (append-nil (below ++ []) ∙ append-nil below)

-- a list begins with its first texts
pub has-first : (m : ℕ) (texts : List (List ℕ)) → has_front (take m texts) texts ≡ true
has-first m texts =
    let long =
    length-take m texts in sym (has_front-take (take m texts) texts m (omega arith)) ∙ has_front-itself (take m texts)

-- a front costs the same where the same stacks begin with it
inclusive-alike : (front next : List (List ℕ)) (stacks : List Costed)
    → ((k : ℕ) → has_front next (texts_at stacks k) ≡ has_front front (texts_at stacks k))
    → inclusive next stacks ≡ inclusive front stacks
unfolding inclusive
inclusive-alike front next [] same = refl
inclusive-alike front next (stack ∷ stacks) same =
    let one = inclusive-cons next stack stacks in
    let two = inclusive-cons front stack stacks in
    let here : cond {A = ℕ} (has_front next stack.texts) stack.cost 0
    ≡ cond {A = ℕ} (has_front front stack.texts) stack.cost 0 =
    ap (λ (b : Bool). cond {A = ℕ} b stack.cost 0) (same 0) in
    let rest = inclusive-alike front next stacks (λ k. same (suc k)) in
    omega arith

-- its first k + 1 texts are those of its first k, and one more
begins-next : (k : ℕ) (texts : List (List ℕ)) → take k texts ≡ take (length (take k texts)) (take (suc k) texts)
begins-next k texts =
    let long = length-take k texts in
    sym (take_all (length (take k texts)) (take k texts) (omega arith))
    ∙ ap (λ (xs : List (List ℕ)). take (length (take k texts)) xs) (sym (take-take k (suc k) texts (omega arith)))
    ∙ take-take (length (take k texts)) k (take (suc k) texts) (omega arith)

-- a front of more of its texts is alone too, and costs the same
further-alone : (stacks : List Costed) (n k : ℕ) → IsAlone stacks (take k (texts_at stacks n)) n
    → IsAlone stacks (take (suc k) (texts_at stacks n)) n
further-alone stacks n k alone m has =
    alone m (has-begun (take k (texts_at stacks n)) (take (suc k) (texts_at stacks n)) (texts_at stacks m)
    (begins-next k (texts_at stacks n)) has)

further-cost : (stacks : List Costed) (n k : ℕ) → IsAlone stacks (take k (texts_at stacks n)) n
    → cost_of stacks (take (suc k) (texts_at stacks n)) ≡ cost_of stacks (take k (texts_at stacks n))
further-cost stacks n k alone = inclusive-alike (take k texts) (take (suc k) texts) stacks same
  where
    texts : List (List ℕ)
    texts = texts_at stacks n

    same : (m : ℕ) → has_front (take (suc k) texts) (texts_at stacks m) ≡ has_front (take k texts) (texts_at stacks m)
    same m = elim (cases_Bool (has_front (take k texts) (texts_at stacks m))) [
      | inl has ↦ subst (λ (j : ℕ). has_front (take (suc k) texts) (texts_at stacks j) ≡ true) (sym (alone m has))
          (has-first (suc k) texts)
          ∙ sym has
      | inr other ↦
          false_from_ne_true (has_front (take (suc k) texts) (texts_at stacks m))
          (λ has. both_ways (has_front (take k texts) (texts_at stacks m)) other
          (has-begun (take k texts) (take (suc k) texts) (texts_at stacks m) (begins-next k texts) has))
          ∙ sym other
    ]

-- a line of it
line-is : (stacks : List Costed) (texts : List (List ℕ)) (depth k children cost : ℕ) → k ≤ length texts → k ≤ depth
    → cost_of stacks (take k texts) ≡ cost → children ≡ cond {A = ℕ} (nat_lt k (length (take depth texts))) 1 0
    → front_line children stacks (take k texts) ≡ tail_line (take depth texts) cost k
line-is stacks texts depth k children cost within short costs below =
    ap (λ (level : ℕ). line level children (cost_of stacks (take k texts)) (take k texts))
    (length-take k texts ∙ (let least = length-take k texts in omega arith))
    ∙ ap (λ (n : ℕ). line k n (cost_of stacks (take k texts)) (take k texts)) below
    ∙ ap (λ (n : ℕ). line k (cond {A = ℕ} (nat_lt k (length (take depth texts))) 1 0) n (take k texts)) costs
    ∙ ap (λ (front : List (List ℕ)). line k (cond {A = ℕ} (nat_lt k (length (take depth texts))) 1 0) cost front)
    (sym (take-take k depth texts short))
  where
    line : ℕ → ℕ → ℕ → List (List ℕ) → FrontLine
    line level children cost front = record { level = level; children = children; cost = cost; shown = a_front front }

-- the lines of one of its stack's fronts, and of all longer ones
pub lone-lines :
    (more depth : ℕ) (scale : Scale) (stacks : List Costed) (n k cost : ℕ)
    → IsAlone stacks (take k (texts_at stacks n)) n
    → k ≤ length (texts_at stacks n)
    → cost_of stacks (take k (texts_at stacks n)) ≡ cost
    → 0 < cost
    → is_small scale cost ≡ false
    → k + more ≡ depth
    → front_lines more scale stacks (take k (texts_at stacks n))
    ≡ map (tail_line (take depth (texts_at stacks n)) cost)
    (range_with_len k (suc (length (take depth (texts_at stacks n)) - k)))
unfolding front_lines
lone-lines zero depth scale stacks n k cost alone within costs some large deep =
    let texts : List (List ℕ) = texts_at stacks n in
    let f : ℕ → FrontLine = tail_line (take depth texts) cost in
    let long = length-take depth texts in
    let last : length (take depth texts) - k ≡ 0 = omega arith in
    let least : nat_lt k (length (take depth texts)) ≡ false =
    false_from_ne_true (nat_lt k (length (take depth texts)))
    (λ is. let less = ltb-true k (length (take depth texts)) is in absurd (omega arith)) in
    ap (λ (line : FrontLine). line ∷ [])
    (line-is stacks texts depth k 0 cost within (omega arith) costs
    (ap (λ (b : Bool). cond {A = ℕ} b 1 0) (sym least)))
    ∙ ap (λ (m : ℕ). map f (range_with_len k (suc m))) (sym last)
lone-lines (suc more) depth scale stacks n k cost alone within costs some large deep =
    elim (cases_lt k (length (texts_at stacks n))) [
      | inl less ↦ goes less
          (λ deeper further. lone-lines more depth scale stacks n (suc k) cost (further-alone stacks n k alone) less
          further some large deeper)
      | inr none ↦ ends none
    ]
  where
    texts : List (List ℕ)
    texts = texts_at stacks n

    f : ℕ → FrontLine
    f = tail_line (take depth texts) cost

    reached : length (take k texts) ≡ k
    reached = let long = length-take k texts in omega arith

    ends : length texts ≤ k
        → front_lines (suc more) scale stacks (take k texts)
        ≡ map f (range_with_len k (suc (length (take depth texts) - k)))
    ends none =
        let long = length-take depth texts in
        let last : length (take depth texts) - k ≡ 0 = omega arith in
        let least : nat_lt k (length (take depth texts)) ≡ false =
        false_from_ne_true (nat_lt k (length (take depth texts)))
        (λ is. let less = ltb-true k (length (take depth texts)) is in absurd (omega arith)) in
        lines-none more scale (take k texts) stacks (next-none (take k texts) stacks n alone (omega (arith, reached)))
        ∙ ap (λ (line : FrontLine). line ∷ [])
        (line-is stacks texts depth k 0 cost within (omega arith) costs
        (ap (λ (b : Bool). cond {A = ℕ} b 1 0) (sym least)))
        ∙ ap (λ (m : ℕ). map f (range_with_len k (suc m))) (sym last)

    goes : k < length texts
        → (suc k + more ≡ depth → cost_of stacks (take (suc k) texts) ≡ cost
        → front_lines more scale stacks (take (suc k) texts)
        ≡ map f (range_with_len (suc k) (suc (length (take depth texts) - suc k))))
        → front_lines (suc more) scale stacks (take k texts)
        ≡ map f (range_with_len k (suc (length (take depth texts) - k)))
    goes less below =
        let long = length-take depth texts in
        let m : ℕ = length (take depth texts) - suc k in
        let left : length (take depth texts) - k ≡ suc m = omega arith in
        let up : length (take k texts) + 1 ≡ suc k = omega (arith, reached) in
        let next_is : longer_front (take k texts) stacks n ≡ take (suc k) texts = ap (λ (j : ℕ). take j texts) up in
        let further = further-cost stacks n k alone ∙ costs in
        let one : next_fronts (take k texts) stacks ≡ take (suc k) texts ∷ [] =
        next-one (take k texts) (get_or texts k []) stacks n alone
        (next_is ∙ ap (λ (j : ℕ). take j texts) (let up : suc k ≡ k + 1 = omega arith in up)
        ∙ take_more texts k [] less)
        (let same = ap (λ (xs : List (List ℕ)). inclusive xs stacks) next_is in omega arith)
        ∙ ap (λ (next : List (List ℕ)). next ∷ []) next_is in
        lines-one more scale (take k texts) (take (suc k) texts) stacks one
        (ap (λ (c : ℕ). is_small scale c) further ∙ large)
        ∙ ap (λ (line : FrontLine). line ∷ front_lines more scale stacks (take (suc k) texts))
        (line-is stacks texts depth k 1 cost within (omega arith) costs
        (ap (λ (b : Bool). cond {A = ℕ} b 1 0) (sym (lt-ltb k (length (take depth texts)) (omega arith)))))
        ∙ ap (λ (lines : List FrontLine). f k ∷ lines) (below (omega arith) further)
        ∙ ap (λ (j : ℕ). f k ∷ map f (range_with_len j (suc m))) (let up : suc k ≡ k + 1 = omega arith in up)
        ∙ ap (λ (j : ℕ). map f (range_with_len k (suc j))) (sym left)
