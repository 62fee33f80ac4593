-- Lemmas on a walk over a tree: what is left to be written, and how many nodes that is.
use Rattle.std.proofs.Common.{◌≡◌, ℕ, zero, suc, ◌+◌, ◌-◌, ◌<◌, ◌≤◌, inl, inr, Bool, true, false, eqb, List, [], ◌∷◌}
use Rattle.std.proofs.Common.{◌++◌, length, map, get_or, reverse, Option, None, Some, refl, sym, ap, ◌∙◌, subst, arith}
use Rattle.std.proofs.Common.{append_assoc, append-nil}
use Rattle.std.specs.Prelude.{All, slice_get, sum_by, filter}
use Rattle.std.specs.List.{flat_map, range_with_len}
use Rattle.std.specs.Option.{option_map_or}
use Rattle.std.proofs.lemmas.Bool.{cases_lt, eqb-true, false≢true}
use Rattle.std.proofs.lemmas.Grind.{flat_map-append}
use Rattle.std.proofs.lemmas.List.{length_push, reverse-append, reverse-reverse}
use Rattle.std.proofs.lemmas.List.Elements.{All-append, All-cons, All-head, All-filter, All-nil, All-tail, All-weaker}
use Rattle.std.proofs.lemmas.List.Elements.{filter_passes}
use Rattle.std.proofs.lemmas.List.Sorted.{All-permutation, IsPermutation-reverse, sum_by-IsPermutation}
use Rattle.std.proofs.lemmas.List.Sums.{sum_by-append, sum_by-cons}
use Rattle.std.proofs.lemmas.Option.{slice_get-get_or, slice_get_within}
use Rattle.cost_tree.specs.declared.node.CostNode.{CostNode}
use Rattle.cost_tree.specs.Children.{children_from, children_of, has_parent}
use Rattle.cost_tree.specs.Costed.{Costed}
use Rattle.cost_tree.specs.Inclusive.{own}
use Rattle.cost_tree.specs.IsTreeOf.{IsTreeOf}
use Rattle.cost_tree.specs.NextFronts.{next_fronts}
use Rattle.cost_tree.specs.TreeState.{TreeState}
use Rattle.ht_print.specs.FlameText.{flame_line, flame_of}
use Rattle.ht_print.specs.FlameWalk.{flame_at, front_at, last_text}
use Rattle.ht_print.proofs.FlameTrees.{IsRooted-of}

-- a child of a node, with its front
pub record IsChildOf (tree : TreeState) (n m : ℕ) : Type 0 where
  pub within : m < length tree.nodes
  pub lower : n < m
  pub longer : length (front_at tree m) ≡ length (front_at tree n) + 1

parent-of : (n : ℕ) (found : Option CostNode)
    → option_map_or (λ (node : CostNode). eqb node.parent n) found false ≡ true
    → (node : CostNode) × (found ≡ Some node) × (node.parent ≡ n)
parent-of n None is = absurd (false≢true is)
parent-of n (Some node) is = (node, refl, eqb-true node.parent n is)

-- the numbers of a range are at least its first
range-from : (a count : ℕ) → All (λ m. a ≤ m) (range_with_len a count)
range-from a zero = All-nil (λ m. a ≤ m)
range-from a (suc count) =
    All-cons (λ m. a ≤ m) a (range_with_len (a + 1) count) (omega arith)
    (All-weaker (λ m. a + 1 ≤ m) (λ m. a ≤ m) (λ m is. omega (arith, is)) (range_with_len (a + 1) count)
    (range-from (a + 1) count))

filtered : (p : ℕ → Bool) (P : ℕ → Type 0) (ms : List ℕ) → All P ms → All (λ m. P m × (p m ≡ true)) (filter p ms)
filtered p P ms all = λ k d within. (All-filter p P ms all k d within, filter_passes p ms k d within)

-- each child of a node is one
pub children-are : (tree : TreeState) (stacks : List Costed) (depth n : ℕ) → IsTreeOf tree stacks depth
    → All (IsChildOf tree n) (children_of tree.nodes n)
unfolding children_from
children-are tree stacks depth n is =
    All-weaker (λ m. (1 ≤ m) × (has_parent tree.nodes n m ≡ true)) (IsChildOf tree n)
    (λ m passes. child m passes.0 passes.1) (children_of tree.nodes n)
    (filtered (has_parent tree.nodes n) (λ m. 1 ≤ m) (range_with_len 1 (length tree.nodes - 1))
    (range-from 1 (length tree.nodes - 1)))
  where
    child : (m : ℕ) → 1 ≤ m → has_parent tree.nodes n m ≡ true → IsChildOf tree n m
    child m above passes =
        let found = parent-of n (slice_get tree.nodes m) passes in
        let rooted = IsRooted-of tree stacks depth is in
        let longer =
        ap (λ (xs : List (List ℕ)). length xs)
        (rooted.longer m found.0 (omega arith) found.1
        ∙ ap (λ (k : ℕ). front_at tree k ++ last_text tree m ∷ []) found.2) in
        let count = length_push (front_at tree n) (last_text tree m) in
        let within = slice_get_within tree.nodes m found.0 found.1 in
        let counted = rooted.count in
        let below =
        is.below m (front_at tree m) found.0 (omega arith) (slice_get-get_or tree.fronts m [] (omega arith))
        found.1 in
        let lower = below.lower in
        let parent = found.2 in
        record { within = within; lower = omega arith; longer = omega arith }

-- sums and lists of elements that agree
sum-same : (f g : ℕ → ℕ) (ms : List ℕ) → All (λ m. f m ≡ g m) ms → sum_by f ms ≡ sum_by g ms
sum-same f g [] same = refl
sum-same f g (m ∷ ms) same =
    let one = sum_by-cons f m ms in
    let two = sum_by-cons g m ms in
    let first = All-head (λ k. f k ≡ g k) m ms same in
    let rest = sum-same f g ms (All-tail (λ k. f k ≡ g k) m ms same) in
    omega arith

lists-same : (f g : ℕ → List ℕ) (ms : List ℕ) → All (λ m. f m ≡ g m) ms → flat_map f ms ≡ flat_map g ms
lists-same f g [] same = refl
lists-same f g (m ∷ ms) same =
    ap (λ (xs : List ℕ). xs ++ flat_map f ms) (All-head (λ k. f k ≡ g k) m ms same)
    ∙ ap (λ (xs : List ℕ). g m ++ xs) (lists-same f g ms (All-tail (λ k. f k ≡ g k) m ms same))

mapped : {X : Type 0} (f : X → List ℕ) (g : ℕ → X) (ms : List ℕ) → flat_map f (map g ms) ≡ flat_map (λ m. f (g m)) ms
mapped f g [] = refl
mapped f g (m ∷ ms) = ap (λ (xs : List ℕ). f (g m) ++ xs) (mapped f g ms)

-- how many nodes there are from a node down, within so many levels
pub size : ℕ → List CostNode → ℕ → ℕ
size zero nodes n = 1
size (suc levels) nodes n = 1 + sum_by (size levels nodes) (children_of nodes n)

-- from node n down, in a tree of fronts of at most so many texts
pub size_at : ℕ → TreeState → ℕ → ℕ
size_at depth tree n = size (depth - length (front_at tree n)) tree.nodes n

-- a node and its children are all of it
pub size-step : (tree : TreeState) (stacks : List Costed) (depth n : ℕ) → IsTreeOf tree stacks depth
    → (depth ≤ length (front_at tree n) → children_of tree.nodes n ≡ [])
    → size_at depth tree n ≡ 1 + sum_by (size_at depth tree) (children_of tree.nodes n)
unfolding size size_at
size-step tree stacks depth n is longest =
    elim (cases_lt (length (front_at tree n)) depth) [
      | inl shorter ↦
          let levels : ℕ = depth - (length (front_at tree n) + 1) in
          let fuel : depth - length (front_at tree n) ≡ suc levels = omega arith in
          let below = sum-same (size levels tree.nodes) (size_at depth tree) (children_of tree.nodes n)
          (All-weaker (IsChildOf tree n) (λ m. size levels tree.nodes m ≡ size_at depth tree m)
          (λ m child. let longer = child.longer in ap (λ (k : ℕ). size k tree.nodes m) (omega arith))
          (children_of tree.nodes n) (children-are tree stacks depth n is)) in
          ap (λ (k : ℕ). size k tree.nodes n) fuel ∙ ap (λ (k : ℕ). 1 + k) below
      | inr over ↦
          let fuel : depth - length (front_at tree n) ≡ 0 = omega arith in
          ap (λ (k : ℕ). size k tree.nodes n) fuel
          ∙ ap (λ (ms : List ℕ). 1 + sum_by (size_at depth tree) ms) (sym (longest (omega arith)))
    ]

-- the lines of a node are its own and those of its children
pub flame-step : (tree : TreeState) (stacks : List Costed) (depth n : ℕ) (node : CostNode) → IsTreeOf tree stacks depth
    → slice_get tree.nodes n ≡ Some node
    → (length (front_at tree n) < depth
    → map (λ m. get_or tree.fronts m []) (children_of tree.nodes n) ≡ next_fronts (front_at tree n) stacks)
    → (depth ≤ length (front_at tree n) → children_of tree.nodes n ≡ [])
    → flame_at depth tree stacks n
    ≡ flame_line (front_at tree n) node.own ++ flat_map (flame_at depth tree stacks) (children_of tree.nodes n)
unfolding flame_of
flame-step tree stacks depth n node is held next longest =
    elim (cases_lt (length (front_at tree n)) depth) [
      | inl shorter ↦
          let levels : ℕ = depth - (length (front_at tree n) + 1) in
          let fuel : depth - length (front_at tree n) ≡ suc levels = omega arith in
          let below =
          lists-same (λ m. flame_of levels stacks (front_at tree m)) (flame_at depth tree stacks)
          (children_of tree.nodes n)
          (All-weaker (IsChildOf tree n) (λ m. flame_of levels stacks (front_at tree m) ≡ flame_at depth tree stacks m)
          (λ m child. let longer = child.longer in ap (λ (k : ℕ). flame_of k stacks (front_at tree m)) (omega arith))
          (children_of tree.nodes n) (children-are tree stacks depth n is)) in
          ap (λ (k : ℕ). flame_of k stacks (front_at tree n)) fuel
          ∙ ap
          (λ (fronts : List (List (List ℕ))). flame_line (front_at tree n) (own (front_at tree n) stacks)
          ++ flat_map (flame_of levels stacks) fronts)
          (sym (next shorter))
          ∙ ap (λ (xs : List ℕ). flame_line (front_at tree n) (own (front_at tree n) stacks) ++ xs)
          (mapped (flame_of levels stacks) (front_at tree) (children_of tree.nodes n) ∙ below)
          ∙ ap
          (λ (sum : ℕ). flame_line (front_at tree n) sum
          ++ flat_map (flame_at depth tree stacks) (children_of tree.nodes n))
          owns
      | inr over ↦
          let fuel : depth - length (front_at tree n) ≡ 0 = omega arith in
          ap (λ (k : ℕ). flame_of k stacks (front_at tree n)) fuel
          ∙ ap (λ (sum : ℕ). flame_line (front_at tree n) sum) owns
          ∙ sym (append-nil (flame_line (front_at tree n) node.own))
          ∙ ap (λ (ms : List ℕ). flame_line (front_at tree n) node.own ++ flat_map (flame_at depth tree stacks) ms)
          (sym (longest (omega arith)))
    ]
  where
    owns : own (front_at tree n) stacks ≡ node.own
    owns =
        let within = slice_get_within tree.nodes n node held in
        let count = is.count in
        sym (is.figures n (front_at tree n) node (slice_get-get_or tree.fronts n [] (omega arith)) held).own

-- a node is taken from the end of what is left, and its children are put there, the first one last
pub left-step : (F : ℕ → List ℕ) (left rest new children : List ℕ) (n : ℕ) (out now line : List ℕ) (whole : List ℕ)
    → left ≡ rest ++ n ∷ [] → new ≡ rest ++ reverse children → now ≡ out ++ line → F n ≡ line ++ flat_map F children
    → out ++ flat_map F (reverse left) ≡ whole → now ++ flat_map F (reverse new) ≡ whole
left-step F left rest new children n out now line whole left_is new_is now_is step before =
    let later : List ℕ = flat_map F (reverse rest) in
    let below : List ℕ = flat_map F children in
    let one : flat_map F (reverse new) ≡ below ++ later =
    ap (λ (ms : List ℕ). flat_map F (reverse ms)) new_is
    ∙ ap (λ (ms : List ℕ). flat_map F ms)
    (reverse-append rest (reverse children) ∙ ap (λ (ms : List ℕ). ms ++ reverse rest) (reverse-reverse children))
    ∙ flat_map-append F children (reverse rest) in
    let two : flat_map F (reverse left) ≡ (line ++ below) ++ later =
    ap (λ (ms : List ℕ). flat_map F (reverse ms)) left_is
    ∙ ap (λ (ms : List ℕ). flat_map F ms) (reverse-append rest (n ∷ []))
    ∙ ap (λ (xs : List ℕ). xs ++ later) step in
    ap (λ (xs : List ℕ). xs ++ flat_map F (reverse new)) now_is
    ∙ ap (λ (xs : List ℕ). (out ++ line) ++ xs) one
    ∙ regrouped out line below later
    ∙ ap (λ (xs : List ℕ). out ++ xs) (sym two)
    ∙ before
  where
    regrouped : (a b c d : List ℕ) → (a ++ b) ++ (c ++ d) ≡ a ++ ((b ++ c) ++ d)
    regrouped a b c d = simp append_assoc

-- and there are fewer nodes left
pub left-smaller : (W : ℕ → ℕ) (left rest new children : List ℕ) (n : ℕ) → left ≡ rest ++ n ∷ []
    → new ≡ rest ++ reverse children → W n ≡ 1 + sum_by W children → sum_by W new < sum_by W left
left-smaller W left rest new children n left_is new_is step =
    let one = ap (λ (ms : List ℕ). sum_by W ms) left_is ∙ sum_by-append W rest (n ∷ []) in
    let last = sum_by-cons W n [] in
    let two = ap (λ (ms : List ℕ). sum_by W ms) new_is ∙ sum_by-append W rest (reverse children) in
    let turned = sum_by-IsPermutation W children (reverse children) (IsPermutation-reverse children) in
    omega arith

-- what is left are nodes
pub left-held : (tree : TreeState) (rest new : List ℕ) (n : ℕ) → All (λ m. m < length tree.nodes) rest
    → All (IsChildOf tree n) (children_of tree.nodes n) → new ≡ rest ++ reverse (children_of tree.nodes n)
    → All (λ m. m < length tree.nodes) new
left-held tree rest new n held children is =
    let H : ℕ → Type 0 = λ m. m < length tree.nodes in
    let below =
    All-permutation H (children_of tree.nodes n) (reverse (children_of tree.nodes n))
    (IsPermutation-reverse (children_of tree.nodes n))
    (All-weaker (IsChildOf tree n) H (λ m child. child.within) (children_of tree.nodes n) children) in
    subst (λ (ms : List ℕ). All H ms) (sym is) (All-append H rest (reverse (children_of tree.nodes n)) held below)
