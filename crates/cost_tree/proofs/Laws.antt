-- Laws of what contracts of trees cite, for the crates above.
use Rattle.std.proofs.Common.{◌≡◌, ◌≢◌, ℕ, ◌+◌, ◌-◌, ◌<◌, ◌≤◌, not, Bool, List, [], ◌∷◌, ◌++◌, length, map, filter}
use Rattle.std.proofs.Common.{take, get_or, Some, refl, ap, ◌∙◌, arith}
use Rattle.std.specs.Prelude.{All, AllPairs, Contains, slice_get, sum, sum_by}
use Rattle.std.specs.List.{flat_map, range_with_len}
use Rattle.std.proofs.lemmas.List.{length_push}
use Rattle.std.proofs.lemmas.List.Elements.{All-filter}
use Rattle.std.proofs.lemmas.List.Filters.{length-filter_both, sum_by-filter_both}
use Rattle.std.proofs.lemmas.List.Sorted.{All-permutation, length_permutation}
use Rattle.std.proofs.lemmas.List.Sums.{sum_by-cons}
use Rattle.std.proofs.lemmas.Option.{get_or_from_slice_get}
use Rattle.intern_tables.specs.Distinct.{AreDistinct}
use Rattle.cost_tree.specs.declared.scale.Scale.{Scale}
use Rattle.cost_tree.specs.Children.{children_of}
use Rattle.cost_tree.specs.Costed.{Costed, costed}
use Rattle.cost_tree.specs.CostLines.{cost_lines, cost_of, gathered_lines, is_small, kept_fronts, last_of, small_fronts}
use Rattle.cost_tree.specs.Inclusive.{inclusive}
use Rattle.cost_tree.specs.IsTreeOf.{IsTreeOf}
use Rattle.cost_tree.specs.NextFronts.{next_fronts}
use Rattle.cost_tree.specs.Texts.{IsText, texts_of}
use Rattle.cost_tree.specs.TreeLines.{front_at}
use Rattle.cost_tree.specs.TreeState.{TreeState}
use Rattle.cost_tree.proofs.Siblings as siblings
use Rattle.cost_tree.proofs.Cutting as cutting
use Rattle.cost_tree.proofs.Forests.{IsForest-tree}
use Rattle.cost_tree.proofs.Lists as lists
use Rattle.cost_tree.proofs.Nexts as nexts
use Rattle.cost_tree.proofs.NextSums.{next-whole}
use Rattle.cost_tree.proofs.Orders.{by_cost-permutation}
use Rattle.cost_tree.proofs.Steps as steps
use Rattle.cost_tree.proofs.Sums as sums
use Rattle.cost_tree.proofs.Walks.{next-few}
-- what stacks cost by the first one and the others, whether texts begin with a front or are it, and
-- texts that keep their numbers
pub use Rattle.cost_tree.proofs.Heads.{inclusive-cons, least-cons}
pub use Rattle.cost_tree.proofs.Prefixes.{has_front-take, is_front-Decides}
pub use Rattle.cost_tree.proofs.Listing.{lists-kept, text-named, texts-grown, texts-kept}

-- the empty front costs what all stacks cost together, and no front costs more
pub inclusive-all : (stacks : List Costed) → inclusive [] stacks ≡ sum_by (λ (s : Costed). s.cost) stacks
inclusive-all = sums.inclusive-all

pub inclusive-within : (front : List (List ℕ)) (stacks : List Costed)
    → inclusive front stacks ≤ sum_by (λ (s : Costed). s.cost) stacks
inclusive-within = sums.inclusive-within

-- the children of a node stand for the fronts that are one text longer than the node's, in the order of these
pub children-next : (tree : TreeState) (stacks : List Costed) (depth n : ℕ) (front : List (List ℕ))
    → IsTreeOf tree stacks depth → slice_get tree.fronts n ≡ Some front → length front < depth
    → map (front_at tree) (children_of tree.nodes n) ≡ next_fronts front stacks
children-next tree stacks depth n front is at shorter =
    siblings.children-next tree stacks depth n front (IsForest-tree tree stacks depth is) at shorter

-- a node of a front of the greatest length has none
pub children-none : (tree : TreeState) (stacks : List Costed) (depth n : ℕ) (front : List (List ℕ))
    → IsTreeOf tree stacks depth → slice_get tree.fronts n ≡ Some front → depth ≤ length front
    → children_of tree.nodes n ≡ []
children-none tree stacks depth n front is at longest =
    siblings.children-none tree stacks depth n front (IsForest-tree tree stacks depth is) at longest

-- lists by their numbers, and one more
pub listed-more : {X : Type 0} (f : ℕ → X) (n : ℕ) (old new : List X) → old ≡ map f (range_with_len 0 n)
    → new ≡ old ++ f n ∷ [] → new ≡ map f (range_with_len 0 (n + 1))
listed-more = lists.listed-more

-- one element more
pub take-next : {X : Type 0} (xs : List X) (i : ℕ) (x : X) → slice_get xs i ≡ Some x
    → take (i + 1) xs ≡ take i xs ++ x ∷ []
take-next = lists.take-next

-- the first of two lists together
pub take-both : {X : Type 0} (n : ℕ) (xs ys : List X) → take n (xs ++ ys) ≡ take n xs ++ take (n - length xs) ys
take-both = lists.take-both

-- what holds of each element of the parts of a list
pub All-flat : {X A : Type 0} (P : A → Type 0) (f : X → List A) (xs : List X) → All (λ x. All P (f x)) xs
    → All P (flat_map f xs)
All-flat = lists.All-flat

-- the last text of a front
pub last-push : (front : List (List ℕ)) (text : List ℕ) → last_of (front ++ text ∷ []) ≡ text
last-push front text =
    let count = length_push front text in
    let place : length (front ++ text ∷ []) - 1 ≡ length front = omega arith in
    ap (λ (k : ℕ). get_or (front ++ text ∷ []) k []) place ∙ at_end front
  where
    at_end : (xs : List (List ℕ)) → get_or (xs ++ text ∷ []) (length xs) [] ≡ text
    at_end [] = refl
    at_end (x ∷ xs) = at_end xs

-- and of a node's front
pub last-text : (tree : TreeState) (n : ℕ) (front : List (List ℕ)) (text : List ℕ)
    → slice_get tree.fronts n ≡ Some (front ++ text ∷ []) → last_of (front_at tree n) ≡ text
last-text tree n front text held =
    ap last_of (get_or_from_slice_get tree.fronts n (front ++ text ∷ []) [] held) ∙ last-push front text

-- what holds of the fronts that are one text longer holds of those with lines of their own
pub kept-all : (P : List (List ℕ) → Type 0) (scale : Scale) (stacks : List Costed) (front : List (List ℕ))
    → All P (next_fronts front stacks) → All P (kept_fronts scale stacks front)
unfolding kept_fronts
kept-all P scale stacks front all =
    let kept : List (List ℕ) → Bool = λ next. not (is_small scale (cost_of stacks next)) in
    All-permutation P (filter kept (next_fronts front stacks)) (kept_fronts scale stacks front)
    (by_cost-permutation (cost_of stacks) (filter kept (next_fronts front stacks)))
    (All-filter kept P (next_fronts front stacks) all)

-- the fronts that are one text longer have the stacks' texts, and a longer front costs no more
pub next-texts : (P : List ℕ → Type 0) (front : List (List ℕ)) (stacks : List Costed)
    → All (λ (stack : Costed). All P stack.texts) stacks → All (All P) (next_fronts front stacks)
next-texts = nexts.next-texts

pub inclusive-longer : (front more : List (List ℕ)) (stacks : List Costed)
    → inclusive (front ++ more) stacks ≤ inclusive front stacks
inclusive-longer = sums.inclusive-longer

-- where the threshold is 0, all have lines of their own: each goes on by its last text and costs
-- something, each front one text longer that costs something is among them, and no two are one
pub small-none : (scale : Scale) (stacks : List Costed) (front : List (List ℕ)) → scale.threshold ≡ 0
    → small_fronts scale stacks front ≡ []
small-none = nexts.small-none

pub kept-next : (scale : Scale) (stacks : List Costed) (front : List (List ℕ)) → scale.threshold ≡ 0
    → All (λ next. next ≡ front ++ last_of next ∷ []) (kept_fronts scale stacks front)
kept-next scale stacks front all k d within = (nexts.kept-longer scale stacks front all k d within).is

pub kept-some : (scale : Scale) (stacks : List Costed) (front : List (List ℕ)) → scale.threshold ≡ 0
    → All (λ next. 0 < inclusive next stacks) (kept_fronts scale stacks front)
kept-some scale stacks front all k d within = (nexts.kept-longer scale stacks front all k d within).some

pub kept-held : (scale : Scale) (stacks : List Costed) (front next : List (List ℕ)) (text : List ℕ)
    → scale.threshold ≡ 0 → next ≡ front ++ text ∷ [] → 0 < inclusive next stacks
    → Contains (kept_fronts scale stacks front) next
kept-held = nexts.kept-held

pub kept-apart : (scale : Scale) (stacks : List Costed) (front : List (List ℕ)) → scale.threshold ≡ 0
    → AllPairs (λ earlier later. earlier ≢ later) (kept_fronts scale stacks front)
kept-apart = nexts.kept-apart

-- there are no more lines below a front's than stacks
pub lines-few : (scale : Scale) (stacks : List Costed) (front : List (List ℕ)) (level : ℕ)
    → length (kept_fronts scale stacks front) + length (gathered_lines stacks level (small_fronts scale stacks front))
    ≤ length stacks
unfolding kept_fronts small_fronts gathered_lines
lines-few scale stacks front level =
    let small : List (List ℕ) → Bool = λ next. is_small scale (cost_of stacks next) in
    let kept : List (List ℕ) → Bool = λ next. not (small next) in
    let order =
    length_permutation (filter kept (next_fronts front stacks)) (kept_fronts scale stacks front)
    (by_cost-permutation (cost_of stacks) (filter kept (next_fronts front stacks))) in
    let both = length-filter_both small kept (λ next. refl) (next_fronts front stacks) in
    let one = one_line (small_fronts scale stacks front) in
    let most = next-few front stacks in
    omega arith
  where
    one_line : (fronts : List (List (List ℕ))) → length (gathered_lines stacks level fronts) ≤ length fronts
    one_line [] = omega arith
    one_line (next ∷ more) = omega arith

-- fronts that are gathered cost together no more than the front that they go on from
pub small-within : (scale : Scale) (stacks : List Costed) (front : List (List ℕ))
    → sum_by (cost_of stacks) (small_fronts scale stacks front) ≤ inclusive front stacks
unfolding small_fronts
small-within scale stacks front =
    let small : List (List ℕ) → Bool = λ next. is_small scale (cost_of stacks next) in
    let both =
    sum_by-filter_both small (λ next. not (small next)) (λ next. refl) (cost_of stacks) (next_fronts front stacks) in
    let whole = next-whole front stacks in
    omega arith

-- stacks are as many as their costs, and cost together what these sum to
pub costed-count : (lists : List (List (List ℕ))) (costs : List ℕ) → length costs ≡ length lists
    → length (costed lists costs) ≡ length lists
unfolding costed
costed-count [] [] same = omega arith
costed-count [] (cost ∷ costs) same = absurd (omega arith)
costed-count (list ∷ lists) [] same = absurd (omega arith)
costed-count (list ∷ lists) (cost ∷ costs) same = let rest = costed-count lists costs (omega arith) in omega arith

pub costed-sum : (lists : List (List (List ℕ))) (costs : List ℕ) → length costs ≡ length lists
    → sum_by (λ (stack : Costed). stack.cost) (costed lists costs) ≡ sum costs
unfolding costed
costed-sum [] [] same = omega arith
costed-sum [] (cost ∷ costs) same = absurd (omega arith)
costed-sum (list ∷ lists) [] same = absurd (omega arith)
costed-sum (list ∷ lists) (cost ∷ costs) same =
    let first : Costed = record { texts = list; cost = cost } in
    let one = sum_by-cons (λ (stack : Costed). stack.cost) first (costed lists costs) in
    let two = sum_by-cons (λ (n : ℕ). n) cost costs in
    let rest = costed-sum lists costs (omega arith) in
    omega arith

-- lists of numbers with the same texts are equal
pub texts-same : (names : List (List ℕ)) (xs ys : List ℕ) → AreDistinct names → All (IsText names) xs
    → All (IsText names) ys → texts_of names xs ≡ texts_of names ys → xs ≡ ys
texts-same = steps.texts-same

-- the lines of a tree need of a list one text more than its fronts may have
pub lines-first : {X : Type 0} (depth : ℕ) (scale : Scale) (texts : X → List (List ℕ)) (xs : List X) (costs : List ℕ)
    → cost_lines depth scale (costed (map (λ x. take (depth + 1) (texts x)) xs) costs)
    ≡ cost_lines depth scale (costed (map texts xs) costs)
lines-first = cutting.lines-first
