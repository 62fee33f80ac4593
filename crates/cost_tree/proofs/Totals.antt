-- Lemmas on nodes whose costs are summed up from the last to the first.
use Rattle.std.proofs.Common.{◌≡◌, ◌≢◌, ℕ, zero, suc, ◌+◌, ◌-◌, ◌<◌, ◌≤◌, inl, inr, Bool, true, if◌then◌else◌, List, []}
use Rattle.std.proofs.Common.{◌∷◌, length, get_or, set, take, Some, refl, sym, ap, ◌∙◌, subst, arith}
use Rattle.std.proofs.Math.Seq.{take-set-lt}
use Rattle.std.specs.Bool.{Decides}
use Rattle.std.specs.Prelude.{All, Contains, slice_get, sum_by}
use Rattle.std.specs.Option.{option_map_or}
use Rattle.std.proofs.lemmas.Bool.{cases_lt, cond-true, cond-false, eq-eqb, ne_eqb}
use Rattle.std.proofs.lemmas.Bool.Decides.{same_from_decides}
use Rattle.std.proofs.lemmas.List.{get_or-take, length-set, length-take, length-take-le, take_all, take_more}
use Rattle.std.proofs.lemmas.List.Elements.{All-contains_itself, All-weaker}
use Rattle.std.proofs.lemmas.List.Sums.{get_or-le-sum_by, sum_by-cons, sum_by-set, sum_by_push}
use Rattle.std.proofs.lemmas.Option.{same_Some, slice_get_within, slice_get-get_or, get_or_from_slice_get}
use Rattle.cost_tree.specs.declared.edge.Edge.{Edge}
use Rattle.cost_tree.specs.declared.node.CostNode.{CostNode}
use Rattle.cost_tree.specs.Children.{children_from, children_of, has_parent}
use Rattle.cost_tree.specs.Costed.{Costed, costed}
use Rattle.cost_tree.specs.Growth.{AreBranches, HasGrown, ending, weight}
use Rattle.cost_tree.specs.Inclusive.{has_front, inclusive, is_front, own}
use Rattle.cost_tree.specs.IsTreeOf.{IsTreeOf}
use Rattle.cost_tree.specs.Summed.{AreSums, AreSumsFrom, cost_in}
use Rattle.cost_tree.specs.Texts.{fronts_of}
use Rattle.cost_tree.specs.TreeParts.{IsTree}
use Rattle.cost_tree.specs.TreeState.{TreeState}
use Rattle.cost_tree.proofs.Siblings.{children-next, children-none}
use Rattle.cost_tree.proofs.ChildNodes.{sum-mapped, sum-same}
use Rattle.cost_tree.proofs.Linking.{children_from-end, children_from-step, children_of-only, has_parent-at, no_node}
use Rattle.cost_tree.proofs.Linking.{ranged}
use Rattle.cost_tree.proofs.Lists.{get-set_cases, get-set_other}
use Rattle.cost_tree.proofs.NextSums.{next-whole}
use Rattle.cost_tree.proofs.Prefixes.{has_front-Decides, is_front-Decides}
use Rattle.cost_tree.proofs.Trees.{IsForest-grown, below-is}

-- what a held node costs
in-held : (nodes : List CostNode) (n : ℕ) (node : CostNode) → slice_get nodes n ≡ Some node
    → cost_in nodes n ≡ node.cost
in-held nodes n node at = ap (λ found. option_map_or (λ (m : CostNode). m.cost) found 0) at

-- no sums yet
pub sums-start : (nodes : List CostNode) (m : ℕ) → length nodes ≤ m → AreSumsFrom nodes nodes m
sums-start nodes m past = record {
  count = refl;
  same =
      λ n old new old_at new_at. subst (λ (x : CostNode). x ≡ record old { cost = x.cost })
      (same_Some old new (sym old_at ∙ new_at)) refl;
  root = λ old new old_at new_at. ap (λ (x : CostNode). x.cost) (same_Some new old (sym new_at ∙ old_at));
  sum = λ n old new above old_at new_at.
      let same = ap (λ (x : CostNode). x.cost) (same_Some new old (sym new_at ∙ old_at)) in
      let none = ap (λ (ms : List ℕ). sum_by (cost_in nodes) ms) (children_from-end nodes n m past) in
      omega arith;
}

-- children from a node on stand there or behind
from-on : (nodes : List CostNode) (n m : ℕ) → All (λ k. m ≤ k) (children_from nodes n m)
unfolding children_from
from-on nodes n m =
    All-weaker (λ k. (m ≤ k) × ((k < m + (length nodes - m)) × (has_parent nodes n k ≡ true))) (λ k. m ≤ k)
    (λ k is. is.0)
    (children_from nodes n m) (ranged (has_parent nodes n) m (length nodes - m))

-- the children of a node from another on, as that is its child or not
from-child : (nodes : List CostNode) (n k : ℕ) (node : CostNode) → slice_get nodes k ≡ Some node → node.parent ≡ n
    → children_from nodes n k ≡ k ∷ children_from nodes n (k + 1)
from-child nodes n k node at is =
    children_from-step nodes n k (slice_get_within nodes k node at)
    ∙ cond-true (has_parent nodes n k) (k ∷ children_from nodes n (k + 1)) (children_from nodes n (k + 1))
    (has_parent-at nodes n k node at ∙ eq-eqb node.parent n is)

from-other : (nodes : List CostNode) (n k : ℕ) (node : CostNode) → slice_get nodes k ≡ Some node → node.parent ≢ n
    → children_from nodes n k ≡ children_from nodes n (k + 1)
from-other nodes n k node at other =
    children_from-step nodes n k (slice_get_within nodes k node at)
    ∙ cond-false (has_parent nodes n k) (k ∷ children_from nodes n (k + 1)) (children_from nodes n (k + 1))
    (has_parent-at nodes n k node at ∙ ne_eqb node.parent n other)

-- a node stands behind its parent, as before
pub parent-lower : (before now : List CostNode) (m k : ℕ) (node : CostNode) → AreSumsFrom before now m
    → ((n : ℕ) (was : CostNode) → 0 < n → slice_get before n ≡ Some was → was.parent < n) → 0 < k
    → slice_get now k ≡ Some node → node.parent < k
parent-lower before now m k node sums lower above at =
    let inside = slice_get_within now k node at in
    let count = sums.count in
    let was : CostNode = get_or before k no_node in
    let was_at = slice_get-get_or before k no_node (omega arith) in
    let parent = ap (λ (x : CostNode). x.parent) (sums.same k was node was_at at) in
    let is = lower k was above was_at in
    omega arith

pub sums-lower : (before now : List CostNode) → AreSums before now
    → ((n : ℕ) (was : CostNode) → 0 < n → slice_get before n ≡ Some was → was.parent < n) → (n : ℕ) (node : CostNode)
    → 0 < n → slice_get now n ≡ Some node → node.parent < n
sums-lower before now sums lower n node above at = parent-lower before now 1 n node sums lower above at

-- a child of node 0 adds to no other node
pub sums-root : (before now : List CostNode) (k : ℕ) (node : CostNode) → AreSumsFrom before now (k + 1)
    → slice_get now k ≡ Some node → node.parent ≡ 0 → AreSumsFrom before now k
sums-root before now k node sums at root =
    let inside = slice_get_within now k node at in
    let count = sums.count in
    let was : CostNode = get_or before k no_node in
    let was_at = slice_get-get_or before k no_node (omega arith) in
    let parent = ap (λ (x : CostNode). x.parent) (sums.same k was node was_at at) in
    record {
      count = sums.count;
      same = sums.same;
      root = sums.root;
      sum = λ n old new above old_at new_at.
          let is = sums.sum n old new above old_at new_at in
          let rest =
          ap (λ (ms : List ℕ). sum_by (cost_in now) ms)
          (from-other before n k was was_at (λ e. absurd (omega arith))) in
          omega arith;
    }

-- a node adds to its parent
pub sums-parent : (before now : List CostNode) (k : ℕ) (node parent : CostNode) → AreSumsFrom before now (k + 1)
    → slice_get now k ≡ Some node → 0 < node.parent → node.parent < k → slice_get now node.parent ≡ Some parent
    → AreSumsFrom before (set now node.parent (record parent { cost = parent.cost + node.cost })) k
sums-parent before now k node parent sums at above lower parent_at = record {
  count = length-set now p more ∙ sums.count;
  same = λ n old new old_at new_at. elim (get-set_cases now p more n new new_at) [
    | inl here ↦
        let is = sums.same n old parent old_at (ap (λ (i : ℕ). slice_get now i) here.0 ∙ parent_at) in
        let P : CostNode → Type 0 = λ x. x ≡ record old { cost = x.cost } in
        subst P (sym here.1) (ap (λ (x : CostNode). record x { cost = parent.cost + node.cost }) is)
    | inr other ↦ sums.same n old new old_at other.1
  ];
  root = λ old new old_at new_at. elim (get-set_cases now p more 0 new new_at) [
    | inl here ↦ absurd (omega (arith, here.0))
    | inr other ↦ sums.root old new old_at other.1
  ];
  sum = λ n old new over old_at new_at. elim (get-set_cases now p more n new new_at) [
    | inl here ↦
        let is = sums.sum n old parent over old_at (ap (λ (i : ℕ). slice_get now i) here.0 ∙ parent_at) in
        let costs = ap (λ (x : CostNode). x.cost) here.1 in
        let all =
        ap (λ (ms : List ℕ). sum_by (cost_in after) ms) (from-child before n k was was_at (parent_is ∙ sym here.0)) in
        let split = sum_by-cons (cost_in after) k (children_from before n (k + 1)) in
        let first = kept k (omega arith) in
        let held = in-held now k node at in
        let rest = same_sums n in
        omega arith
    | inr other ↦
        let is = sums.sum n old new over old_at other.1 in
        let all =
        ap (λ (ms : List ℕ). sum_by (cost_in after) ms)
        (from-other before n k was was_at (λ e. other.0 (sym e ∙ parent_is))) in
        let rest = same_sums n in
        omega arith
  ];
}
  where
    p : ℕ
    p = node.parent

    more : CostNode
    more = record parent { cost = parent.cost + node.cost }

    after : List CostNode
    after = set now node.parent (record parent { cost = parent.cost + node.cost })

    was : CostNode
    was = get_or before k no_node

    was_at : slice_get before k ≡ Some (get_or before k no_node)
    was_at =
        let inside =
        slice_get_within now k node at in let count = sums.count in slice_get-get_or before k no_node (omega arith)

    parent_is : (get_or before k no_node).parent ≡ node.parent
    parent_is = sym (ap (λ (x : CostNode). x.parent) (sums.same k (get_or before k no_node) node was_at at))

    kept : (m : ℕ) → k ≤ m
        → cost_in (set now node.parent (record parent { cost = parent.cost + node.cost })) m ≡ cost_in now m
    kept m behind =
        ap (λ found. option_map_or (λ (x : CostNode). x.cost) found 0)
        (get-set_other now node.parent m (record parent { cost = parent.cost + node.cost }) (λ e. absurd (omega arith)))

    same_sums : (n : ℕ)
        → sum_by (cost_in (set now node.parent (record parent { cost = parent.cost + node.cost })))
        (children_from before n (k + 1))
        ≡ sum_by (cost_in now) (children_from before n (k + 1))
    same_sums n =
        sum-same (cost_in (set now node.parent (record parent { cost = parent.cost + node.cost }))) (cost_in now)
        (children_from before n (k + 1))
        (All-weaker (λ m. k + 1 ≤ m)
        (λ m. cost_in (set now node.parent (record parent { cost = parent.cost + node.cost })) m ≡ cost_in now m)
        (λ m behind. kept m (omega arith))
        (children_from before n (k + 1)) (from-on before n (k + 1)))

-- what the first nodes weigh, as one adds to another before it
pub two-within : (nodes : List CostNode) (k p : ℕ) (node parent : CostNode) → slice_get nodes k ≡ Some node
    → slice_get nodes p ≡ Some parent → p < k → weight parent + weight node ≤ sum_by weight (take (k + 1) nodes)
two-within nodes k p node parent at parent_at lower =
    let inside = slice_get_within nodes k node at in
    let count = length-take-le k nodes (omega arith) in
    let all =
    ap (λ (ns : List CostNode). sum_by weight ns) (take_more nodes k node inside)
    ∙ sum_by_push weight (take k nodes) (get_or nodes k node) in
    let most = get_or-le-sum_by weight (take k nodes) p parent (omega arith) in
    let one =
    ap (λ (x : CostNode). weight x)
    (get_or-take k nodes p parent lower ∙ get_or_from_slice_get nodes p parent parent parent_at) in
    let two = ap (λ (x : CostNode). weight x) (get_or_from_slice_get nodes k node node at) in
    omega arith

pub left-fewer : (nodes : List CostNode) (k : ℕ) (node : CostNode) → slice_get nodes k ≡ Some node
    → sum_by weight (take k nodes) ≤ sum_by weight (take (k + 1) nodes)
left-fewer nodes k node at =
    let inside = slice_get_within nodes k node at in
    let all =
    ap (λ (ns : List CostNode). sum_by weight ns) (take_more nodes k node inside)
    ∙ sum_by_push weight (take k nodes) (get_or nodes k node) in
    omega arith

pub left-moved : (nodes : List CostNode) (k p : ℕ) (node parent : CostNode) → slice_get nodes k ≡ Some node
    → slice_get nodes p ≡ Some parent → p < k
    → sum_by weight (take k (set nodes p (record parent { cost = parent.cost + node.cost })))
    ≤ sum_by weight (take (k + 1) nodes)
left-moved nodes k p node parent at parent_at lower =
    let now : CostNode = record parent { cost = parent.cost + node.cost } in
    let inside = slice_get_within nodes k node at in
    let count = length-take-le k nodes (omega arith) in
    let all =
    ap (λ (ns : List CostNode). sum_by weight ns) (take_more nodes k node inside)
    ∙ sum_by_push weight (take k nodes) (get_or nodes k node) in
    let two = ap (λ (x : CostNode). weight x) (get_or_from_slice_get nodes k node node at) in
    let moved = ap (λ (ns : List CostNode). sum_by weight ns) (take-set-lt k nodes p now lower) in
    let changed = sum_by-set weight (take k nodes) p now parent (omega arith) in
    let one =
    ap (λ (x : CostNode). weight x)
    (get_or-take k nodes p parent lower ∙ get_or_from_slice_get nodes p parent parent parent_at) in
    omega arith

-- what ends at a front that may go on is its own, and what is cut at the deepest ones is all
ending-same : (depth : ℕ) (front : List (List ℕ)) (P : List (List ℕ) → Type 0) (test : List (List ℕ) → Bool)
    (stacks : List Costed)
    → ((texts : List (List ℕ)) → Decides (test texts) (P texts))
    → ((texts : List (List ℕ)) → front ≡ take depth texts → P texts)
    → ((texts : List (List ℕ)) → P texts → front ≡ take depth texts)
    → ending depth front stacks ≡ sum_by (λ stack. if test stack.texts then stack.cost else 0) stacks
unfolding ending
ending-same depth front P test stacks decides there back =
    sum-same (λ (stack : Costed). if is_front front (take depth stack.texts) then stack.cost else 0)
    (λ (stack : Costed). if test stack.texts then stack.cost else 0) stacks
    (λ k d within. ap (λ (b : Bool). if b then (get_or stacks k d).cost else 0) (same (get_or stacks k d).texts))
  where
    same : (texts : List (List ℕ)) → is_front front (take depth texts) ≡ test texts
    same texts =
        same_from_decides (is_front front (take depth texts)) (test texts) (is_front-Decides front (take depth texts)) (
          (λ has. back texts ((decides texts).0 has)),
          (λ is. (decides texts).1 (there texts is)),
        )

ending-own : (depth : ℕ) (front : List (List ℕ)) (stacks : List Costed) → length front < depth
    → ending depth front stacks ≡ own front stacks
unfolding own
ending-own depth front stacks short =
    ending-same depth front (λ texts. front ≡ texts) (λ texts. is_front front texts) stacks (is_front-Decides front)
    (λ texts is. is
    ∙ take_all depth texts
    (let count = ap (λ (xs : List (List ℕ)). length xs) is ∙ length-take depth texts in omega arith))
    (λ texts is. is
    ∙ sym (take_all depth texts (let count = ap (λ (xs : List (List ℕ)). length xs) is in omega arith)))

ending-deep : (depth : ℕ) (front : List (List ℕ)) (stacks : List Costed) → length front ≡ depth
    → ending depth front stacks ≡ inclusive front stacks
unfolding inclusive
ending-deep depth front stacks deep =
    ending-same depth front (λ texts. front ≡ take (length front) texts) (λ texts. has_front front texts) stacks
    (has_front-Decides front) (λ texts is. is ∙ ap (λ (k : ℕ). take k texts) (sym deep))
    (λ texts is. is ∙ ap (λ (k : ℕ). take k texts) deep)

-- each node behind a node costs what its front does
abbrev Behind : List (List (List ℕ)) → List CostNode → List Costed → ℕ → Type 0
Behind fronts summed stacks n =
    (m : ℕ) (front : List (List ℕ)) (node : CostNode) → n < m → slice_get fronts m ≡ Some front
    → slice_get summed m ≡ Some node → node.cost ≡ inclusive front stacks

-- so do its children
children-cost : (names : List (List ℕ)) (edges : List Edge) (nodes summed : List CostNode) (stacks : List Costed)
    (depth n : ℕ)
    → HasGrown names edges nodes stacks depth → AreSums nodes summed → Behind (fronts_of names edges) summed stacks n
    → sum_by (cost_in summed) (children_of nodes n)
    ≡ sum_by (λ m. inclusive (get_or (fronts_of names edges) m []) stacks) (children_of nodes n)
children-cost names edges nodes summed stacks depth n has sums behind =
    sum-same (cost_in summed) (λ m. inclusive (get_or (fronts_of names edges) m []) stacks) (children_of nodes n)
    (All-weaker (Contains (children_of nodes n))
    (λ m. cost_in summed m ≡ inclusive (get_or (fronts_of names edges) m []) stacks) child (children_of nodes n)
    (All-contains_itself (children_of nodes n)))
  where
    child : (m : ℕ) → Contains (children_of nodes n) m
        → cost_in summed m ≡ inclusive (get_or (fronts_of names edges) m []) stacks
    child m held =
        let one = children_of-only nodes n m held in
        let inside = slice_get_within nodes m one.0 one.2 in
        let count = sums.count in
        let fronts_count = has.branches.steps.count in
        let nodes_count = has.branches.nodes_count in
        let now : CostNode = get_or summed m no_node in
        let now_at = slice_get-get_or summed m no_node (omega arith) in
        let its_front = slice_get-get_or (fronts_of names edges) m [] (omega arith) in
        let below =
        below-is names edges nodes m (get_or (fronts_of names edges) m []) one.0 has.branches one.1 its_front one.2 in
        let lower = below.lower in
        let parent = one.3 in
        in-held summed m now now_at ∙ behind m (get_or (fronts_of names edges) m []) now (omega arith) its_front now_at

-- and the node
node-cost : (names : List (List ℕ)) (edges : List Edge) (nodes summed : List CostNode) (stacks : List Costed)
    (depth n : ℕ) (front : List (List ℕ)) (node : CostNode)
    → HasGrown names edges nodes stacks depth → AreSums nodes summed
    → Behind (fronts_of names edges) summed stacks n → 0 < n → slice_get (fronts_of names edges) n ≡ Some front
    → slice_get summed n ≡ Some node → node.cost ≡ inclusive front stacks
node-cost names edges nodes summed stacks depth n front node has sums behind above front_at node_at =
    let fronts : List (List (List ℕ)) = fronts_of names edges in
    let tree : TreeState = record { names = names; fronts = fronts; nodes = nodes } in
    let inside = slice_get_within summed n node node_at in
    let count = sums.count in
    let old : CostNode = get_or nodes n no_node in
    let old_at = slice_get-get_or nodes n no_node (omega arith) in
    let is = sums.sum n old node above old_at node_at in
    let ends = has.grown.ends n front old above front_at old_at in
    let short = has.grown.short n front front_at in
    let forest = IsForest-grown names edges nodes stacks depth has in
    elim (cases_lt (length front) depth) [
      | inl shorter ↦
          let owns = ending-own depth front stacks shorter in
          let next = children-next tree stacks depth n front forest front_at shorter in
          let mapped = sum-mapped (λ f. inclusive f stacks) (λ m. get_or fronts m []) (children_of nodes n) in
          let same = ap (λ (fs : List (List (List ℕ))). sum_by (λ f. inclusive f stacks) fs) next in
          let each = children-cost names edges nodes summed stacks depth n has sums behind in
          let whole = next-whole front stacks in
          omega arith
      | inr deep ↦
          let all = ending-deep depth front stacks (omega arith) in
          let none =
          ap (λ (ms : List ℕ). sum_by (cost_in summed) ms)
          (children-none tree stacks depth n front forest front_at (omega arith)) in
          omega arith
    ]

-- the costs are those of the fronts
costs-are : (names : List (List ℕ)) (edges : List Edge) (nodes summed : List CostNode) (stacks : List Costed)
    (depth fuel n : ℕ) (front : List (List ℕ)) (node : CostNode)
    → HasGrown names edges nodes stacks depth → AreSums nodes summed
    → length nodes ≤ n + fuel → 0 < n → slice_get (fronts_of names edges) n ≡ Some front
    → slice_get summed n ≡ Some node → node.cost ≡ inclusive front stacks
costs-are names edges nodes summed stacks depth zero n front node has sums past above front_at node_at =
    let inside = slice_get_within summed n node node_at in
    let count = sums.count in
    absurd (omega arith)
costs-are names edges nodes summed stacks depth (suc fuel) n front node has sums most above front_at node_at =
    node-cost names edges nodes summed stacks depth n front node has sums
    (λ m f other later f_at other_at. costs-are names edges nodes summed stacks depth fuel m f other has sums
    (omega arith) (omega arith) f_at other_at)
    above front_at node_at

-- a tree of lists is that of equal ones
pub IsTreeOf-lists : {tree : TreeState} {depth : ℕ} (lists new : List (List (List ℕ))) (costs : List ℕ) → lists ≡ new
    → IsTreeOf tree (costed lists costs) depth → IsTreeOf tree (costed new costs) depth
IsTreeOf-lists {tree} {depth} lists new costs same is =
    subst (λ (ls : List (List (List ℕ))). IsTreeOf tree (costed ls costs) depth) same is

-- a tree of the same edges and nodes
pub IsTree-same : (names : List (List ℕ)) (edges other : List Edge) (nodes others : List CostNode)
    (stacks : List Costed) (depth : ℕ)
    → other ≡ edges → others ≡ nodes → IsTree names edges nodes stacks depth → IsTree names other others stacks depth
IsTree-same names edges other nodes others stacks depth same alike is =
    subst (λ (es : List Edge). IsTree names es others stacks depth) (sym same)
    (subst (λ (ns : List CostNode). IsTree names edges ns stacks depth) (sym alike) is)

-- the tree with its costs
pub IsTree-summed : (names : List (List ℕ)) (edges : List Edge) (nodes summed : List CostNode) (stacks : List Costed)
    (depth : ℕ)
    → HasGrown names edges nodes stacks depth → AreSums nodes summed → IsTree names edges summed stacks depth
IsTree-summed names edges nodes summed stacks depth has sums =
    let forest = IsForest-grown names edges nodes stacks depth has in
    let are = has.branches in
    let grown = has.grown in
    let branches : AreBranches names edges summed (fronts_of names edges) = record {
      steps = are.steps;
      texts = are.texts;
      nodes_count = sums.count ∙ are.nodes_count;
      root_parent =
          λ node at. let old = was 0 node at in ap (λ (x : CostNode). x.parent) (sums.same 0 old.0 node old.1 at)
          ∙ are.root_parent old.0 old.1;
      parent =
          λ place edge node edge_at at. let old = was (place + 1) node at in ap (λ (x : CostNode). x.parent)
          (sums.same (place + 1) old.0 node old.1 at)
          ∙ are.parent place edge old.0 edge_at old.1;
    } in
    record {
      branches = branches;
      tree_of = record {
        root = forest.root;
        count = sums.count ∙ forest.count;
        distinct = forest.distinct;
        complete = forest.complete;
        only = forest.only;
        short = forest.short;
        figures = λ n front node front_at node_at.
            let old = was n node node_at in
            let same = sums.same n old.0 node old.1 node_at in
            record {
              cost = cost_of n front node old.0 front_at old.1 node_at;
              own = ap (λ (x : CostNode). x.own) same ∙ grown.owns n front old.0 front_at old.1;
              first = λ some. ap (λ (x : CostNode). x.first) same ∙ grown.firsts n front old.0 front_at old.1 some;
              first_of_none = λ none. ap (λ (x : CostNode). x.first) same ∙ no_first n front old.0 front_at old.1 none;
            };
        below = λ n front node above front_at node_at.
            below-is names edges summed n front node branches above front_at node_at;
        root_parent = branches.root_parent;
        siblings = λ m n older younger above later older_at younger_at parents.
            let old_m = was m older older_at in
            let old_n = was n younger younger_at in
            let same_m = sums.same m old_m.0 older old_m.1 older_at in
            let same_n = sums.same n old_n.0 younger old_n.1 younger_at in
            let first_m = ap (λ (x : CostNode). x.first) same_m in
            let first_n = ap (λ (x : CostNode). x.first) same_n in
            let order =
            forest.siblings m n old_m.0 old_n.0 above later old_m.1 old_n.1
            (sym (ap (λ (x : CostNode). x.parent) same_m) ∙ parents ∙ ap (λ (x : CostNode). x.parent) same_n) in
            omega arith;
      };
    }
  where
    was : (n : ℕ) (node : CostNode) → slice_get summed n ≡ Some node → (old : CostNode) × (slice_get nodes n ≡ Some old)
    was n node at =
        let inside = slice_get_within summed n node at in
        let count = sums.count in
        (get_or nodes n no_node, slice_get-get_or nodes n no_node (omega arith))

    root_cost : (old node : CostNode) → slice_get nodes 0 ≡ Some old → slice_get summed 0 ≡ Some node
        → node.cost ≡ inclusive [] stacks
    root_cost old node old_at at = sums.root old node old_at at ∙ has.grown.root old old_at

    cost_of : (n : ℕ) (front : List (List ℕ)) (node old : CostNode) → slice_get (fronts_of names edges) n ≡ Some front
        → slice_get nodes n ≡ Some old → slice_get summed n ≡ Some node → node.cost ≡ inclusive front stacks
    cost_of zero front node old front_at old_at node_at =
        root_cost old node old_at node_at
        ∙ ap (λ (xs : List (List ℕ)). inclusive xs stacks)
        (same_Some [] front (sym has.branches.steps.root ∙ front_at))
    cost_of (suc n) front node old front_at old_at node_at =
        costs-are names edges nodes summed stacks depth (length nodes) (suc n) front node has sums (omega arith)
        (omega arith) front_at node_at

    no_first : (n : ℕ) (front : List (List ℕ)) (old : CostNode) → slice_get (fronts_of names edges) n ≡ Some front
        → slice_get nodes n ≡ Some old → inclusive front stacks ≡ 0 → old.first ≡ 0
    no_first zero front old front_at old_at none =
        has.grown.empty old old_at
        (has.grown.root old old_at
        ∙ ap (λ (xs : List (List ℕ)). inclusive xs stacks)
        (same_Some [] front (sym has.branches.steps.root ∙ front_at))
        ∙ none)
    no_first (suc n) front old front_at old_at none =
        let some = has.grown.only (suc n) front (omega arith) front_at in absurd (omega arith)
