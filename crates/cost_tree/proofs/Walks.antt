-- Lemmas on a walk over a tree: what still has no line, and how many steps that takes.
use Rattle.std.proofs.Common.{◌≡◌, ℕ, zero, suc, ◌+◌, ◌-◌, ◌*◌, ◌^◌, ◌<◌, ◌≤◌, inl, inr, List, [], ◌∷◌, ◌++◌, length}
use Rattle.std.proofs.Common.{map, filter, reverse, refl, sym, ap, ◌∙◌, subst, arith, append_assoc}
use Rattle.std.specs.Prelude.{All, nat_lt, sum_by}
use Rattle.std.specs.List.{flat_map, range_with_len}
use Rattle.std.proofs.lemmas.Bool.{cases_lt, cond-true, lt-ltb}
use Rattle.std.proofs.lemmas.Grind.{flat_map-append}
use Rattle.std.proofs.lemmas.List.{length-append, length-map, length-reverse, reverse-append, reverse-reverse}
use Rattle.std.proofs.lemmas.List.Elements.{All-append, All-cons, All-filter, All-map, All-nil, All-weaker}
use Rattle.std.proofs.lemmas.List.Filters.{length-filter_both, sum_by-filter_both}
use Rattle.std.proofs.lemmas.List.Folds.{flat_map-map}
use Rattle.std.proofs.lemmas.List.FromFn.{length-range_with_len}
use Rattle.std.proofs.lemmas.List.Sorted.{All-permutation, IsPermutation-reverse, length_permutation}
use Rattle.std.proofs.lemmas.List.Sorted.{sum_by-IsPermutation}
use Rattle.std.proofs.lemmas.List.Sums.{sum_by-append, sum_by-cons}
use Rattle.std.proofs.lemmas.Option.{get_or_from_slice_get, slice_get-get_or, slice_get_within}
use Rattle.cost_tree.specs.declared.lines.Pending.{Pending}
use Rattle.cost_tree.specs.declared.lines.Pending.TheVariants.{Below, Line}
use Rattle.cost_tree.specs.declared.node.CostNode.{CostNode}
use Rattle.cost_tree.specs.declared.scale.Scale.{Scale}
use Rattle.cost_tree.specs.Children.{children_of}
use Rattle.cost_tree.specs.Costed.{Costed}
use Rattle.cost_tree.specs.CostLines.{FrontLine, cost_lines, cost_of, front_line, front_lines, gathered_lines}
use Rattle.cost_tree.specs.CostLines.{kept_fronts, small_fronts}
use Rattle.cost_tree.specs.IsTreeOf.{IsTreeOf}
use Rattle.cost_tree.specs.NextFronts.{longer_front, next_fronts, opens}
use Rattle.cost_tree.specs.Order.{by_cost}
use Rattle.cost_tree.specs.Pendings.{IsLeft, IsPending, children_below, gathered_line, pending_below, pending_children}
use Rattle.cost_tree.specs.Pendings.{pending_gathered, pending_line, pending_lines}
use Rattle.cost_tree.specs.Shares.{cost_at, gathered_in, is_kept_at, is_small_at, kept_children, small_children}
use Rattle.cost_tree.specs.TreeLines.{HasLines, IsLineOf, front_at, line_at}
use Rattle.cost_tree.specs.TreeState.{TreeState}
use Rattle.cost_tree.proofs.Siblings.{children-next, children-none}
use Rattle.cost_tree.proofs.Forests.{IsForest-tree}
use Rattle.cost_tree.proofs.ChildNodes.{IsChildOf, children-are, children-within, cost-is, kept-are, small-are}
use Rattle.cost_tree.proofs.ChildNodes.{sum-mapped, sum-same}
use Rattle.cost_tree.proofs.NextSums.{next-whole}
use Rattle.cost_tree.proofs.Orders.{by_cost-permutation}
use Rattle.cost_tree.proofs.Sums.{inclusive-within}

-- how many nodes there are from a node down, within so many levels
pub size : ℕ → List CostNode → ℕ → ℕ
size zero nodes n = 1
size (suc levels) nodes n = 1 + sum_by (size levels nodes) (children_of nodes n)

-- from node n down; as many levels as there are nodes are enough
pub size_at : TreeState → ℕ → ℕ
size_at tree n = size (length tree.nodes) tree.nodes n

-- levels that are enough give one number, since a node stands behind its parent
size-same : (tree : TreeState) (stacks : List Costed) (depth : ℕ) → IsTreeOf tree stacks depth → (few more n : ℕ)
    → n < length tree.nodes → length tree.nodes ≤ n + few → length tree.nodes ≤ n + more
    → size few tree.nodes n ≡ size more tree.nodes n
unfolding size
size-same tree stacks depth is zero more n inside enough enough_more = absurd (omega arith)
size-same tree stacks depth is (suc few) zero n inside enough enough_more = absurd (omega arith)
size-same tree stacks depth is (suc few) (suc more) n inside enough enough_more =
    ap (λ (k : ℕ). 1 + k)
    (sum-same (size few tree.nodes) (size more tree.nodes) (children_of tree.nodes n)
    (All-weaker (IsChildOf tree stacks n) (λ m. size few tree.nodes m ≡ size more tree.nodes m)
    (λ m child. let lower = child.lower in size-same tree stacks depth is few more m child.within (omega arith)
    (omega arith))
    (children_of tree.nodes n) (children-are tree stacks depth n is)))

-- a node with its children weighs more than they and one line of those that are gathered
abbrev pub weight : TreeState → Pending → ℕ
weight tree (Below level node) = 2 * size_at tree node
weight tree (Line line) = 1

-- a node and its children are all of it
size-step : (tree : TreeState) (stacks : List Costed) (depth n : ℕ) → IsTreeOf tree stacks depth → n < length tree.nodes
    → size_at tree n ≡ 1 + sum_by (size_at tree) (children_of tree.nodes n)
unfolding size size_at
size-step tree stacks depth n is inside =
    let levels : ℕ = length tree.nodes - 1 in
    let fuel : length tree.nodes ≡ suc levels = omega arith in
    let below = sum-same (size levels tree.nodes) (size_at tree) (children_of tree.nodes n)
    (All-weaker (IsChildOf tree stacks n) (λ m. size levels tree.nodes m ≡ size_at tree m)
    (λ m child. let lower = child.lower in size-same tree stacks depth is levels (length tree.nodes) m child.within
    (omega arith) (omega arith))
    (children_of tree.nodes n) (children-are tree stacks depth n is)) in
    ap (λ (k : ℕ). size k tree.nodes n) fuel ∙ ap (λ (k : ℕ). 1 + k) below

sum-twice : (f : ℕ → ℕ) (ms : List ℕ) → sum_by (λ m. 2 * f m) ms ≡ 2 * sum_by f ms
sum-twice f [] = refl
sum-twice f (m ∷ ms) =
    let one = sum_by-cons f m ms in
    let two = sum_by-cons (λ k. 2 * f k) m ms in
    let rest = sum-twice f ms in
    omega arith

-- some nodes are gathered
some-gathered : (tree : TreeState) (level node : ℕ) (nodes : List ℕ)
    → pending_gathered level (gathered_in tree (node ∷ nodes))
    ≡ Line (gathered_line level (gathered_in tree (node ∷ nodes))) ∷ []
some-gathered tree level node nodes =
    cond-true (nat_lt 0 (length (node ∷ nodes))) (Line (gathered_line level (gathered_in tree (node ∷ nodes))) ∷ []) []
    (lt-ltb 0 (length (node ∷ nodes)) (omega arith))

gathered-weight : (tree : TreeState) (level : ℕ) (nodes : List ℕ)
    → sum_by (weight tree) (pending_gathered level (gathered_in tree nodes)) ≤ 1
gathered-weight tree level [] = omega arith
gathered-weight tree level (node ∷ nodes) =
    let one = sum_by-cons (weight tree) (Line (gathered_line level (gathered_in tree (node ∷ nodes)))) [] in
    let is = ap (λ (ps : List Pending). sum_by (weight tree) ps) (some-gathered tree level node nodes) in
    omega arith

-- the children weigh less than the node
children-lighter : (tree : TreeState) (stacks : List Costed) (scale : Scale) (depth level n : ℕ)
    → IsTreeOf tree stacks depth → n < length tree.nodes
    → sum_by (weight tree) (pending_children scale tree level n) < 2 * size_at tree n
unfolding kept_children
children-lighter tree stacks scale depth level n is inside =
    let W : Pending → ℕ = weight tree in
    let children : List ℕ = children_of tree.nodes n in
    let kept : List ℕ = kept_children scale tree n in
    let G : List Pending = pending_gathered level (gathered_in tree (small_children scale tree n)) in
    let nodes : List Pending = map (Below level) kept in
    let whole = sum_by-append W G (reverse nodes) in
    let few = gathered-weight tree level (small_children scale tree n) in
    let turned = sum_by-IsPermutation W nodes (reverse nodes) (IsPermutation-reverse nodes) in
    let mapped = sum-mapped W (Below level) kept in
    let twice = sum-twice (size_at tree) kept in
    let chosen =
    sum_by-IsPermutation (size_at tree) (filter (is_kept_at scale tree) children) kept
    (by_cost-permutation (cost_at tree) (filter (is_kept_at scale tree) children)) in
    let both =
    sum_by-filter_both (is_small_at scale tree) (is_kept_at scale tree) (λ m. refl) (size_at tree) children in
    let step = size-step tree stacks depth n is inside in
    omega arith

-- what is pending is taken from the end, its line is made, and what stands below it is put there
pub left-step : {X A : Type 0} (F : X → List A) (left rest new below : List X) (x : X) (out now line whole : List A)
    → left ≡ rest ++ x ∷ [] → new ≡ rest ++ below → now ≡ out ++ line → F x ≡ line ++ flat_map F (reverse below)
    → out ++ flat_map F (reverse left) ≡ whole → now ++ flat_map F (reverse new) ≡ whole
left-step {X} {A} F left rest new below x out now line whole left_is new_is now_is step before =
    let later : List A = flat_map F (reverse rest) in
    let under : List A = flat_map F (reverse below) in
    let one : flat_map F (reverse new) ≡ under ++ later =
    ap (λ (xs : List X). flat_map F (reverse xs)) new_is
    ∙ ap (λ (xs : List X). flat_map F xs) (reverse-append rest below)
    ∙ flat_map-append F (reverse below) (reverse rest) in
    let two : flat_map F (reverse left) ≡ (line ++ under) ++ later =
    ap (λ (xs : List X). flat_map F (reverse xs)) left_is
    ∙ ap (λ (xs : List X). flat_map F xs) (reverse-append rest (x ∷ []))
    ∙ ap (λ (xs : List A). xs ++ later) step in
    ap (λ (xs : List A). xs ++ flat_map F (reverse new)) now_is
    ∙ ap (λ (xs : List A). (out ++ line) ++ xs) one
    ∙ regrouped out line under later
    ∙ ap (λ (xs : List A). out ++ xs) (sym two)
    ∙ before
  where
    regrouped : (a b c d : List A) → (a ++ b) ++ (c ++ d) ≡ a ++ ((b ++ c) ++ d)
    regrouped a b c d = simp append_assoc

pub left-smaller : {X : Type 0} (W : X → ℕ) (left rest new below : List X) (x : X) → left ≡ rest ++ x ∷ []
    → new ≡ rest ++ below → sum_by W below < W x → sum_by W new < sum_by W left
left-smaller {X} W left rest new below x left_is new_is step =
    let one = ap (λ (xs : List X). sum_by W xs) left_is ∙ sum_by-append W rest (x ∷ []) in
    let last = sum_by-cons W x [] in
    let two = ap (λ (xs : List X). sum_by W xs) new_is ∙ sum_by-append W rest below in
    omega arith

-- lists of elements that agree
pub lists-same : {X A : Type 0} (f g : X → List A) (xs : List X) → All (λ x. f x ≡ g x) xs
    → flat_map f xs ≡ flat_map g xs
lists-same f g [] same = refl
lists-same {X} {A} f g (x ∷ xs) same =
    ap (λ (ys : List A). ys ++ flat_map f xs) (same 0 x (omega arith))
    ∙ ap (λ (ys : List A). g x ++ ys) (lists-same f g xs (λ k d within. same (suc k) d (omega arith)))

-- the line of the nodes that are gathered
gathered-is : (depth : ℕ) (scale : Scale) (tree : TreeState) (stacks : List Costed) (level : ℕ) (nodes : List ℕ)
    → All (λ m. cost_at tree m ≡ cost_of stacks (front_at tree m)) nodes
    → flat_map (pending_lines depth scale tree stacks) (reverse (pending_gathered level (gathered_in tree nodes)))
    ≡ gathered_lines stacks level (map (front_at tree) nodes)
unfolding gathered_lines
gathered-is depth scale tree stacks level [] costs = refl
gathered-is depth scale tree stacks level (node ∷ nodes) costs =
    let all : List ℕ = node ∷ nodes in
    let count = length-map all (front_at tree) in
    let sums =
    sum-same (cost_at tree) (λ m. cost_of stacks (front_at tree m)) all costs
    ∙ sym (sum-mapped (cost_of stacks) (front_at tree) all) in
    ap (λ (ps : List Pending). flat_map (pending_lines depth scale tree stacks) (reverse ps))
    (some-gathered tree level node nodes)
    ∙ ap (λ (places : ℕ). line_at tree
    (gathered_line level (record { places = places; cost = sum_by (cost_at tree) all }))
    ∷ []) (sym
    count)
    ∙ ap (λ (cost : ℕ). line_at tree
    (gathered_line level (record { places = length (map (front_at tree) all); cost = cost }))
    ∷ []) sums

-- of which there is one, where there are some
gathered-count : (stacks : List Costed) (tree : TreeState) (level : ℕ) (nodes : List ℕ)
    → length (gathered_lines stacks level (map (front_at tree) nodes))
    ≡ length (pending_gathered level (gathered_in tree nodes))
unfolding gathered_lines
gathered-count stacks tree level [] = refl
gathered-count stacks tree level (node ∷ nodes) =
    sym (ap (λ (ps : List Pending). length ps) (some-gathered tree level node nodes))

-- as many as a node's children are pending
children-count : (scale : Scale) (tree : TreeState) (level n : ℕ)
    → length (pending_children scale tree level n)
    ≡ length (kept_children scale tree n)
    + length (pending_gathered level (gathered_in tree (small_children scale tree n)))
children-count scale tree level n =
    let kept : List ℕ = kept_children scale tree n in
    let G : List Pending = pending_gathered level (gathered_in tree (small_children scale tree n)) in
    let whole = length-append G (reverse (map (Below level) kept)) in
    let turned = length-reverse (map (Below level) kept) in
    let mapped = length-map kept (Below level) in
    omega arith

-- at most as many as it has
pub children-fewer : (scale : Scale) (tree : TreeState) (level n : ℕ)
    → length (pending_children scale tree level n) ≤ length (children_of tree.nodes n)
unfolding kept_children small_children
children-fewer scale tree level n =
    let children : List ℕ = children_of tree.nodes n in
    let count = children-count scale tree level n in
    let order =
    length_permutation (filter (is_kept_at scale tree) children) (kept_children scale tree n)
    (by_cost-permutation (cost_at tree) (filter (is_kept_at scale tree) children)) in
    let both = length-filter_both (is_small_at scale tree) (is_kept_at scale tree) (λ m. refl) children in
    let small = one_line (small_children scale tree n) in
    omega arith
  where
    one_line : (nodes : List ℕ) → length (pending_gathered level (gathered_in tree nodes)) ≤ length nodes
    one_line [] = omega arith
    one_line (node ∷ nodes) =
        let one = ap (λ (ps : List Pending). length ps) (some-gathered tree level node nodes) in omega arith

-- what a node's children stand for, where it has some levels below it
children-lines : (tree : TreeState) (stacks : List Costed) (scale : Scale) (depth level n more : ℕ)
    → All (IsChildOf tree stacks n) (children_of tree.nodes n)
    → level ≡ length (front_at tree n) + 1
    → depth - length (front_at tree n) ≡ suc more
    → map (front_at tree) (children_of tree.nodes n) ≡ next_fronts (front_at tree n) stacks
    → flat_map (front_lines more scale stacks) (kept_fronts scale stacks (front_at tree n))
    ++ gathered_lines stacks (length (front_at tree n) + 1) (small_fronts scale stacks (front_at tree n))
    ≡ flat_map (pending_lines depth scale tree stacks) (reverse (pending_children scale tree level n))
unfolding kept_children small_children
children-lines tree stacks scale depth level n more all level_is fuel next =
    let F : Pending → List FrontLine = pending_lines depth scale tree stacks in
    let kept : List ℕ = kept_children scale tree n in
    let G : List Pending = pending_gathered level (gathered_in tree (small_children scale tree n)) in
    let lines : List (List ℕ) → List FrontLine = front_lines more scale stacks in
    let nodes = lists-same (λ m. lines (front_at tree m)) (λ m. F (Below level m)) kept
    (All-weaker (IsChildOf tree stacks n) (λ m. lines (front_at tree m) ≡ F (Below level m))
    (λ m child. let longer = child.longer in ap (λ (k : ℕ). front_lines k scale stacks (front_at tree m)) (omega arith))
    kept kept_all) in
    let small = gathered-is depth scale tree stacks level (small_children scale tree n)
    (All-filter (is_small_at scale tree) (λ m. cost_at tree m ≡ cost_of stacks (front_at tree m))
    (children_of tree.nodes n)
    (All-weaker (IsChildOf tree stacks n) (λ m. cost_at tree m ≡ cost_of stacks (front_at tree m))
    (λ m child. child.cost) (children_of tree.nodes n) all)) in
    ap (λ (fronts : List (List (List ℕ))). flat_map lines fronts
    ++ gathered_lines stacks (length (front_at tree n) + 1) (small_fronts scale stacks (front_at tree n))) (kept-are
    tree stacks scale n all next)
    ∙ ap (λ (fronts : List (List (List ℕ))). flat_map lines (map (front_at tree) kept)
    ++ gathered_lines stacks (length (front_at tree n) + 1) fronts) (small-are
    tree stacks scale n all next)
    ∙ ap (λ (l : ℕ). flat_map lines (map (front_at tree) kept)
    ++ gathered_lines stacks l (map (front_at tree) (small_children scale tree n))) (sym
    level_is)
    ∙ ap (λ (ls : List FrontLine). ls
    ++ gathered_lines stacks level (map (front_at tree) (small_children scale tree n))) (flat_map-map
    lines (front_at tree) kept
    ∙ nodes ∙ sym (flat_map-map F (Below level) kept))
    ∙ ap (λ (ls : List FrontLine). flat_map F (map (Below level) kept) ++ ls) (sym small)
    ∙ sym (flat_map-append F (map (Below level) kept) (reverse G))
    ∙ ap (λ (ps : List Pending). flat_map F ps) (sym turned)
  where
    kept_all : All (IsChildOf tree stacks n) (kept_children scale tree n)
    kept_all =
        All-permutation (IsChildOf tree stacks n) (filter (is_kept_at scale tree) (children_of tree.nodes n))
        (kept_children scale tree n)
        (by_cost-permutation (cost_at tree) (filter (is_kept_at scale tree) (children_of tree.nodes n)))
        (All-filter (is_kept_at scale tree) (IsChildOf tree stacks n) (children_of tree.nodes n) all)

    turned : reverse (pending_children scale tree level n)
        ≡ map (Below level) (kept_children scale tree n)
        ++ reverse (pending_gathered level (gathered_in tree (small_children scale tree n)))
    turned =
        reverse-append (pending_gathered level (gathered_in tree (small_children scale tree n)))
        (reverse (map (Below level) (kept_children scale tree n)))
        ∙ ap (λ (ps : List Pending). ps
        ++ reverse (pending_gathered level (gathered_in tree (small_children scale tree n)))) (reverse-reverse
        (map (Below level) (kept_children scale tree n)))

-- and how many lines of the next level that is
lines-count : (tree : TreeState) (stacks : List Costed) (scale : Scale) (level n : ℕ)
    → All (IsChildOf tree stacks n) (children_of tree.nodes n)
    → level ≡ length (front_at tree n) + 1
    → map (front_at tree) (children_of tree.nodes n) ≡ next_fronts (front_at tree n) stacks
    → length (kept_fronts scale stacks (front_at tree n))
    + length (gathered_lines stacks (length (front_at tree n) + 1) (small_fronts scale stacks (front_at tree n)))
    ≡ length (pending_children scale tree level n)
lines-count tree stacks scale level n all level_is next =
    let kept : List ℕ = kept_children scale tree n in
    let fronts = ap (λ (fs : List (List (List ℕ))). length fs) (kept-are tree stacks scale n all next) in
    let mapped = length-map kept (front_at tree) in
    let small =
    ap (λ (fs : List (List (List ℕ))). length (gathered_lines stacks (length (front_at tree n) + 1) fs))
    (small-are tree stacks scale n all next) in
    let on_level =
    ap (λ (l : ℕ). length (gathered_lines stacks l (map (front_at tree) (small_children scale tree n)))) level_is in
    let few = gathered-count stacks tree level (small_children scale tree n) in
    let pending = children-count scale tree level n in
    omega arith

-- the lines of a node are its own and what its children stand for
node-lines : (tree : TreeState) (stacks : List Costed) (scale : Scale) (depth level n : ℕ)
    → All (IsChildOf tree stacks n) (children_of tree.nodes n)
    → cost_at tree n ≡ cost_of stacks (front_at tree n)
    → level ≡ length (front_at tree n)
    → (length (front_at tree n) < depth
    → map (front_at tree) (children_of tree.nodes n) ≡ next_fronts (front_at tree n) stacks)
    → (depth ≤ length (front_at tree n) → children_of tree.nodes n ≡ [])
    → pending_lines depth scale tree stacks (Below level n)
    ≡ line_at tree (pending_line scale tree (Below level n))
    ∷ flat_map (pending_lines depth scale tree stacks) (reverse (pending_children scale tree (level + 1) n))
unfolding front_lines kept_children small_children
node-lines tree stacks scale depth level n all cost level_is next longest =
    let F : Pending → List FrontLine = pending_lines depth scale tree stacks in
    let front : List (List ℕ) = front_at tree n in
    let below : List Pending = pending_children scale tree (level + 1) n in
    let line : ℕ → ℕ → ℕ → FrontLine =
    λ l children
    c. record {
      level = l;
      children = children;
      cost = c;
      shown = Rattle.cost_tree.specs.CostLines.a_front front;
    } in
    elim (cases_lt (length front) depth) [
      | inl shorter ↦
          let more : ℕ = depth - (length front + 1) in
          let fuel : depth - length front ≡ suc more = omega arith in
          let under : List FrontLine = flat_map F (reverse below) in
          ap (λ (k : ℕ). front_lines k scale stacks front) fuel
          ∙ ap
          (λ (ls : List FrontLine). line (length front)
          (length (kept_fronts scale stacks front)
          + length (gathered_lines stacks (length front + 1) (small_fronts scale stacks front)))
          (cost_of stacks front)
          ∷ ls)
          (children-lines tree stacks scale depth (level + 1) n more all (omega arith) fuel (next shorter))
          ∙ ap (λ (k : ℕ). line (length front) k (cost_of stacks front) ∷ under)
          (lines-count tree stacks scale (level + 1) n all (omega arith) (next shorter))
          ∙ ap (λ (c : ℕ). line (length front) (length below) c ∷ under) (sym cost)
          ∙ ap (λ (l : ℕ). line l (length below) (cost_at tree n) ∷ under) (sym level_is)
      | inr over ↦
          let fuel : depth - length front ≡ 0 = omega arith in
          let none : below ≡ [] = emptied (longest (omega arith)) in
          ap (λ (k : ℕ). front_lines k scale stacks front) fuel
          ∙ ap (λ (c : ℕ). line (length front) 0 c ∷ []) (sym cost)
          ∙ ap (λ (l : ℕ). line l 0 (cost_at tree n) ∷ []) (sym level_is)
          ∙ ap (λ (ps : List Pending). line level (length ps) (cost_at tree n) ∷ flat_map F (reverse ps)) (sym none)
    ]
  where
    emptied : children_of tree.nodes n ≡ [] → pending_children scale tree (level + 1) n ≡ []
    emptied none =
        ap (λ (ms : List ℕ). pending_gathered (level + 1) (gathered_in tree (filter (is_small_at scale tree) ms))
        ++ reverse (map (Below (level + 1)) (by_cost (cost_at tree) (filter (is_kept_at scale tree) ms)))) none

-- what is put there is something of each node, and of the line of those that are gathered
children-all : (P : Pending → Type 0) (scale : Scale) (tree : TreeState) (level n : ℕ)
    → All (λ m. P (Below level m)) (children_of tree.nodes n)
    → ((node : ℕ) (nodes : List ℕ) → small_children scale tree n ≡ node ∷ nodes
    → P (Line (gathered_line level (gathered_in tree (node ∷ nodes)))))
    → All P (pending_children scale tree level n)
unfolding kept_children
children-all P scale tree level n each few =
    All-append P (pending_gathered level (gathered_in tree (small_children scale tree n)))
    (reverse (map (Below level) (kept_children scale tree n)))
    (several (small_children scale tree n) few)
    (All-permutation P (map (Below level) (kept_children scale tree n))
    (reverse (map (Below level) (kept_children scale tree n)))
    (IsPermutation-reverse (map (Below level) (kept_children scale tree n)))
    (All-map P (Below level) (kept_children scale tree n)
    (All-permutation (λ m. P (Below level m)) (filter (is_kept_at scale tree) (children_of tree.nodes n))
    (kept_children scale tree n)
    (by_cost-permutation (cost_at tree) (filter (is_kept_at scale tree) (children_of tree.nodes n)))
    (All-filter (is_kept_at scale tree) (λ m. P (Below level m)) (children_of tree.nodes n) each))))
  where
    several : (nodes : List ℕ)
        → ((first : ℕ) (more : List ℕ) → nodes ≡ first ∷ more
        → P (Line (gathered_line level (gathered_in tree (first ∷ more)))))
        → All P (pending_gathered level (gathered_in tree nodes))
    several [] which = All-nil P
    several (node ∷ nodes) which =
        subst (λ (ps : List Pending). All P ps) (sym (some-gathered tree level node nodes))
        (All-cons P (Line (gathered_line level (gathered_in tree (node ∷ nodes)))) [] (which node nodes refl)
        (All-nil P))

-- a front goes on to no more fronts than there are stacks
pub next-few : (front : List (List ℕ)) (stacks : List Costed) → length (next_fronts front stacks) ≤ length stacks
unfolding next_fronts
next-few front stacks =
    let all : List ℕ = range_with_len 0 (length stacks) in
    let mapped = length-map (filter (opens front stacks) all) (longer_front front stacks) in
    let both =
    length-filter_both (opens front stacks) (λ n. Rattle.std.specs.Prelude.not (opens front stacks n)) (λ n. refl)
    all in
    let count = length-range_with_len 0 (length stacks) in
    omega arith

-- what holds of what is pending: its children can be counted, and what stands below it is lighter, is held, and has the
-- lines that are left
pub record IsStep (scale : Scale) (tree : TreeState) (stacks : List Costed) (depth : ℕ) (next : Pending) : Type 0 where
  pub few : length (children_below tree next) < 2 ^ 32
  pub within : sum_by (cost_at tree) (children_below tree next) ≤ 2 ^ 62
  pub lighter : sum_by (weight tree) (pending_below scale tree next) < weight tree next
  pub pending : All (IsPending tree) (pending_below scale tree next)
  pub lines : pending_lines depth scale tree stacks next
      ≡ line_at tree (pending_line scale tree next)
      ∷ flat_map (pending_lines depth scale tree stacks) (reverse (pending_below scale tree next))
  pub line : IsLeft tree stacks depth next → IsLineOf tree stacks depth (pending_line scale tree next)
  pub left : All (IsLeft tree stacks depth) (pending_below scale tree next)

pub step-is : (scale : Scale) (tree : TreeState) (stacks : List Costed) (depth : ℕ) (next : Pending)
    → HasLines tree stacks depth → IsPending tree next → IsStep scale tree stacks depth next
unfolding small_children
step-is scale tree stacks depth (Below level n) is pending =
    let tree_of = is.tree_of in
    let count = tree_of.count in
    let inside = pending.0 in
    let level_is = pending.1 in
    let held = slice_get-get_or tree.fronts n [] (omega arith) in
    let all = children-are tree stacks depth n tree_of in
    let next = children-next tree stacks depth n (front_at tree n) (IsForest-tree tree stacks depth tree_of) held in
    let longest = children-none tree stacks depth n (front_at tree n) (IsForest-tree tree stacks depth tree_of) held in
    let most = inclusive-within (front_at tree n) stacks in
    let sums = next-whole (front_at tree n) stacks in
    let cost = cost-is tree stacks depth n tree_of inside in
    let short = tree_of.short n (front_at tree n) held in
    let bound = is.within in
    let shallow = is.shallow in
    let within =
    children-within tree stacks depth n (sum_by (λ (s : Costed). s.cost) stacks) tree_of inside all next longest
    (omega arith) (omega arith) in
    record {
      few = fewer next longest;
      within = omega arith;
      lighter = children-lighter tree stacks scale depth (level + 1) n tree_of inside;
      pending = children-all (IsPending tree) scale tree (level + 1) n
          (All-weaker (IsChildOf tree stacks n) (λ m. IsPending tree (Below (level + 1) m))
          (λ m child.
          let longer = child.longer in
          let inside_child = child.within in
          let child_short = tree_of.short m (front_at tree m) (slice_get-get_or tree.fronts m [] (omega arith)) in
          (inside_child, omega arith, omega arith)) (children_of tree.nodes n) all)
          (λ node nodes some. tt);
      lines = node-lines tree stacks scale depth level n all cost level_is next longest;
      line = λ left. record { place = inside; level = omega arith; within = omega arith };
      left = children-all (IsLeft tree stacks depth) scale tree (level + 1) n
          (λ k d below. tt)
          (λ node nodes
          some. record { place = tt; level = lower all node nodes some; within = less node nodes some within });
    }
  where
    fewer : (length (front_at tree n) < depth
        → map (front_at tree) (children_of tree.nodes n) ≡ next_fronts (front_at tree n) stacks)
        → (depth ≤ length (front_at tree n) → children_of tree.nodes n ≡ [])
        → length (children_of tree.nodes n) < 2 ^ 32
    fewer next longest =
        let few = is.few in
        elim (cases_lt (length (front_at tree n)) depth) [
          | inl shorter ↦
              let same = ap (λ (fs : List (List (List ℕ))). length fs) (next shorter) in
              let mapped = length-map (children_of tree.nodes n) (front_at tree) in
              let most = next-few (front_at tree n) stacks in
              omega arith
          | inr over ↦ let none = ap (λ (ms : List ℕ). length ms) (longest (omega arith)) in omega arith
        ]

    lower : All (IsChildOf tree stacks n) (children_of tree.nodes n) → (node : ℕ) (nodes : List ℕ)
        → small_children scale tree n ≡ node ∷ nodes → level + 1 ≤ depth
    lower all node nodes some =
        let small = All-filter (is_small_at scale tree) (IsChildOf tree stacks n) (children_of tree.nodes n) all in
        let child : IsChildOf tree stacks n node =
        subst (λ (ms : List ℕ). All (IsChildOf tree stacks n) ms) some small 0 0 (omega arith) in
        let longer = child.longer in
        let inside_child = child.within in
        let count = is.tree_of.count in
        let level_is = pending.1 in
        let child_short =
        is.tree_of.short node (front_at tree node) (slice_get-get_or tree.fronts node [] (omega arith)) in
        omega arith

    less : (node : ℕ) (nodes : List ℕ) → small_children scale tree n ≡ node ∷ nodes
        → sum_by (cost_at tree) (children_of tree.nodes n) ≤ sum_by (λ (s : Costed). s.cost) stacks
        → sum_by (cost_at tree) (node ∷ nodes) ≤ sum_by (λ (s : Costed). s.cost) stacks
    less node nodes some within =
        let both =
        sum_by-filter_both (is_small_at scale tree) (is_kept_at scale tree) (λ m. refl) (cost_at tree)
        (children_of tree.nodes n) in
        let same = ap (λ (ms : List ℕ). sum_by (cost_at tree) ms) some in
        omega arith
step-is scale tree stacks depth (Line line) is pending = record {
  few = omega arith;
  within = omega arith;
  lighter = omega arith;
  pending = All-nil (IsPending tree);
  lines = refl;
  line = λ left. left;
  left = All-nil (IsLeft tree stacks depth);
}

-- the root stands for the empty front
root-front : (tree : TreeState) (stacks : List Costed) (depth : ℕ) → IsTreeOf tree stacks depth → front_at tree 0 ≡ []
root-front tree stacks depth is = get_or_from_slice_get tree.fronts 0 [] [] is.root

pub root-pending : (tree : TreeState) (stacks : List Costed) (depth : ℕ) → IsTreeOf tree stacks depth
    → IsPending tree (Below 0 0)
root-pending tree stacks depth is =
    let count = is.count in
    let within = slice_get_within tree.fronts 0 [] is.root in
    (omega arith, ap (λ (front : List (List ℕ)). length front) (sym (root-front tree stacks depth is)), omega arith)

pub root-lines : (scale : Scale) (tree : TreeState) (stacks : List Costed) (depth : ℕ) → IsTreeOf tree stacks depth
    → pending_lines depth scale tree stacks (Below 0 0) ≡ cost_lines depth scale stacks
unfolding cost_lines
root-lines scale tree stacks depth is =
    let front = root-front tree stacks depth is in
    let count = ap (λ (f : List (List ℕ)). length f) front in
    ap (λ (k : ℕ). front_lines k scale stacks (front_at tree 0)) (omega arith)
    ∙ ap (λ (f : List (List ℕ)). front_lines depth scale stacks f) front
