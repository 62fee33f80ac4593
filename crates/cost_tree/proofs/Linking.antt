-- Lemmas on the children of a node, and on the links to them.
use Rattle.std.proofs.Common.{◌≡◌, ◌≢◌, ℕ, zero, suc, ◌+◌, ◌-◌, ◌<◌, ◌≤◌, inl, inr, ◌==◌, Bool, true, false, cond, List}
use Rattle.std.proofs.Common.{[], ◌∷◌, length, get_or, set, replicate, Some, refl, sym, ap, ◌∙◌, subst, arith}
use Rattle.std.proofs.Common.{get_or-set_same, get_or-set_other}
use Rattle.std.specs.Prelude.{All, AllPairs, Contains, slice_get, slice_index, filter}
use Rattle.std.specs.List.{range_with_len}
use Rattle.std.specs.Option.{option_map_or}
use Rattle.std.proofs.lemmas.Bool.{cases_eq, cases_lt, cond-true, cond-false, cond_both, eq-eqb, eqb-true, ne_eqb}
use Rattle.std.proofs.lemmas.Bool.{false≢true}
use Rattle.std.proofs.lemmas.List.{length-set, length-replicate, get_or_read}
use Rattle.std.proofs.lemmas.List.Elements.{All-nil, All-cons, All-weaker, All-contains, Contains-append_right}
use Rattle.std.proofs.lemmas.List.FromFn.{length-range_with_len}
use Rattle.std.proofs.lemmas.List.Sums.{length-filter, count_by-le-length}
use Rattle.std.proofs.lemmas.Option.{same_Some, slice_get_within, slice_get-get_or}
use Rattle.cost_tree.specs.declared.node.CostNode.{CostNode}
use Rattle.cost_tree.specs.Children.{has_parent, children_from, children_of, chain, IsLink, AreLinksFrom}

-- a node that is there, and whether its parent is n
pub has_parent-at : (nodes : List CostNode) (n m : ℕ) (node : CostNode) → slice_get nodes m ≡ Some node
    → has_parent nodes n m ≡ (node.parent == n)
has_parent-at nodes n m node at = ap (λ found. option_map_or (λ (x : CostNode). x.parent == n) found false) at

-- from a node on: that node where it is a child, and those after it
pub children_from-step : (nodes : List CostNode) (n m : ℕ) → m < length nodes
    → children_from nodes n m
    ≡ cond (has_parent nodes n m) (m ∷ children_from nodes n (m + 1)) (children_from nodes n (m + 1))
unfolding children_from
children_from-step nodes n m within =
    let left : length nodes - m ≡ suc (length nodes - (m + 1)) = omega arith in
    ap (λ (k : ℕ). filter (has_parent nodes n) (range_with_len m k)) left

-- past the last node there are none
pub children_from-end : (nodes : List CostNode) (n m : ℕ) → length nodes ≤ m → children_from nodes n m ≡ []
unfolding children_from
children_from-end nodes n m past =
    let left : length nodes - m ≡ 0 = omega arith in
    ap (λ (k : ℕ). filter (has_parent nodes n) (range_with_len m k)) left

-- no more children than nodes
pub length-children_from : (nodes : List CostNode) (n m : ℕ) → length (children_from nodes n m) ≤ length nodes - m
unfolding children_from
length-children_from nodes n m =
    let count = length-filter (has_parent nodes n) (range_with_len m (length nodes - m)) in
    let most = count_by-le-length (has_parent nodes n) (range_with_len m (length nodes - m)) in
    let all = length-range_with_len m (length nodes - m) in
    omega arith

-- a chain that ends, and one that goes on
pub chain-none : (nodes : List CostNode) (n child : ℕ) → child ≡ 0 → chain nodes n child ≡ []
chain-none nodes n child none =
    cond-true (child == 0) [] (child ∷ children_from nodes n (child + 1)) (eq-eqb child 0 none)

pub chain-some : (nodes : List CostNode) (n child : ℕ) → child ≢ 0
    → chain nodes n child ≡ child ∷ children_from nodes n (child + 1)
chain-some nodes n child some =
    cond-false (child == 0) [] (child ∷ children_from nodes n (child + 1)) (ne_eqb child 0 some)

-- no links yet
pub AreLinksFrom-end : (nodes : List CostNode) (firsts nexts : List ℕ) → 0 < length nodes → length firsts ≡ length nodes
    → length nexts ≡ length nodes
    → ((n : ℕ) → slice_index firsts n ≡ 0) → AreLinksFrom nodes firsts nexts (length nodes)
AreLinksFrom-end nodes firsts nexts some firsts_count nexts_count none = record {
  firsts_count = firsts_count;
  nexts_count = nexts_count;
  first = λ n within. record {
    rest =
        children_from-end nodes n (length nodes) (omega arith) ∙ sym
        (chain-none nodes n (slice_index firsts n) (none n));
    within = let is = none n in omega arith;
    parent = λ node child at. absurd (child (none n));
  };
  next = λ k node past at. let inside = slice_get_within nodes k node at in absurd (omega arith);
}

-- a node is linked before those after it
pub AreLinksFrom-more :
    (nodes : List CostNode) (firsts nexts : List ℕ) (m : ℕ) (node : CostNode) → AreLinksFrom nodes firsts nexts (m + 1)
    → 0 < m → slice_get nodes m ≡ Some node → node.parent < length nodes
    → AreLinksFrom nodes (set firsts node.parent m) (set nexts m (slice_index firsts node.parent)) m
AreLinksFrom-more nodes firsts nexts m node links above at parent_within = record {
  firsts_count = length-set firsts node.parent m ∙ links.firsts_count;
  nexts_count = length-set nexts m (slice_index firsts node.parent) ∙ links.nexts_count;
  first = λ n within. elim (cases_eq n node.parent) [
    | inl is ↦ as_parent n is
    | inr other ↦
        let P : ℕ → Type 0 = λ child. IsLink nodes n m child in
        let old = links.first n within in
        let kept : slice_index (set firsts node.parent m) n ≡ slice_index firsts n =
        get_or-set_other firsts node.parent n m 0 other in
        subst P (sym kept) (record {
          rest =
              children_from-step nodes n m inside
              ∙ cond-false (has_parent nodes n m) (m ∷ children_from nodes n (m + 1)) (children_from nodes n (m + 1))
              (not_parent n other)
              ∙ old.rest;
          within = old.within;
          parent = old.parent;
        })
  ];
  next = λ k child past child_at. elim (cases_lt m k) [
    | inr here ↦ at_node k child (omega arith) child_at
    | inl later ↦
        let other : k ≢ m = λ is. absurd (omega arith) in
        let P : ℕ → Type 0 = λ next. IsLink nodes child.parent (k + 1) next in
        let kept : slice_index (set nexts m (slice_index firsts node.parent)) k ≡ slice_index nexts k =
        get_or-set_other nexts m k (slice_index firsts node.parent) 0 other in
        subst P (sym kept) (links.next k child (omega arith) child_at)
  ];
}
  where
    inside : m < length nodes
    inside = slice_get_within nodes m node at

    not_parent : (n : ℕ) → n ≢ node.parent → has_parent nodes n m ≡ false
    not_parent n other = has_parent-at nodes n m node at ∙ ne_eqb node.parent n (λ same. other (sym same))

    as_parent : (n : ℕ) → n ≡ node.parent → IsLink nodes n m (slice_index (set firsts node.parent m) n)
    as_parent n is =
        let N : ℕ → Type 0 = λ k. IsLink nodes k m (slice_index (set firsts node.parent m) k) in
        let P : ℕ → Type 0 = λ child. IsLink nodes node.parent m child in
        let stored : slice_index (set firsts node.parent m) node.parent ≡ m =
        get_or-set_same firsts node.parent m 0 (omega (arith, links.firsts_count)) in
        let its : has_parent nodes node.parent m ≡ true =
        has_parent-at nodes node.parent m node at ∙ eq-eqb node.parent node.parent refl in
        let link : IsLink nodes node.parent m m = record {
          rest =
              children_from-step nodes node.parent m inside
              ∙ cond-true (has_parent nodes node.parent m) (m ∷ children_from nodes node.parent (m + 1))
              (children_from nodes node.parent (m + 1)) its
              ∙ sym (chain-some nodes node.parent m (λ none. absurd (omega arith)));
          within = inside;
          parent = λ child some child_at. ap (λ (x : CostNode). x.parent) (same_Some child node (sym child_at ∙ at));
        } in
        subst N (sym is) (subst P (sym stored) link)

    at_node : (k : ℕ) (child : CostNode) → k ≡ m → slice_get nodes k ≡ Some child
        → IsLink nodes child.parent (k + 1) (slice_index (set nexts m (slice_index firsts node.parent)) k)
    at_node k child is child_at =
        let same : child ≡ node = same_Some child node (sym child_at ∙ ap (λ (i : ℕ). slice_get nodes i) is ∙ at) in
        let N : ℕ → Type 0 =
        λ i. IsLink nodes child.parent (i + 1) (slice_index (set nexts m (slice_index firsts node.parent)) i) in
        let C : CostNode → Type 0 =
        λ x. IsLink nodes x.parent (m + 1) (slice_index (set nexts m (slice_index firsts node.parent)) m) in
        let P : ℕ → Type 0 = λ next. IsLink nodes node.parent (m + 1) next in
        let here : m < length nodes = inside in
        let stored : slice_index (set nexts m (slice_index firsts node.parent)) m ≡ slice_index firsts node.parent =
        get_or-set_same nexts m (slice_index firsts node.parent) 0 (omega (arith, links.nexts_count)) in
        subst N (sym is) (subst C (sym same) (subst P (sym stored) (links.first node.parent parent_within)))

-- the node that stands past the end of a list
abbrev pub no_node : CostNode
no_node = record { parent = 0; cost = 0; own = 0; first = 0 }

-- a walk over children: the child that it stands at is one of them, and the rest follows
pub record IsWalk (nodes : List CostNode) (firsts nexts : List ℕ) (n child : ℕ) : Type 0 where
  pub links : AreLinksFrom nodes firsts nexts 1
  pub within : child < length nodes
  pub parent : (node : CostNode) → child ≢ 0 → slice_get nodes child ≡ Some node → node.parent ≡ n

pub IsWalk-first : (nodes : List CostNode) (firsts nexts : List ℕ) (n : ℕ) → AreLinksFrom nodes firsts nexts 1
    → n < length nodes
    → IsWalk nodes firsts nexts n (slice_index firsts n)
    × (children_of nodes n ≡ chain nodes n (slice_index firsts n))
IsWalk-first nodes firsts nexts n links within =
    let link = links.first n within in (
      record { links = links; within = link.within; parent = link.parent },
      link.rest,
    )

IsWalk-next : (nodes : List CostNode) (firsts nexts : List ℕ) (n child : ℕ) → IsWalk nodes firsts nexts n child
    → child ≢ 0
    → IsWalk nodes firsts nexts n (slice_index nexts child)
    × (chain nodes n child ≡ child ∷ chain nodes n (slice_index nexts child))
IsWalk-next nodes firsts nexts n child walk some =
    let at = slice_get-get_or nodes child no_node walk.within in
    let node : CostNode = get_or nodes child no_node in
    let link = walk.links.next child node (omega arith) at in
    let parent = walk.parent node some at in
    let P : ℕ → Type 0 = λ k. IsLink nodes k (child + 1) (slice_index nexts child) in
    let here = subst P parent link in (
      record { links = walk.links; within = here.within; parent = here.parent },
      chain-some nodes n child some ∙ ap (λ (xs : List ℕ). child ∷ xs) here.rest,
    )

-- the next child as it is read
pub IsWalk-read : {nodes : List CostNode} {firsts nexts : List ℕ} {n child next : ℕ}
    → IsWalk nodes firsts nexts n child → child ≢ 0 → next ≡ slice_index nexts child → IsWalk nodes firsts nexts n next
IsWalk-read {nodes} {firsts} {nexts} {n} {child} walk some read =
    subst (λ (k : ℕ). IsWalk nodes firsts nexts n k) (sym read) (IsWalk-next nodes firsts nexts n child walk some).0

pub chain-read : {nodes : List CostNode} {firsts nexts : List ℕ} {n child next : ℕ}
    → IsWalk nodes firsts nexts n child → child ≢ 0 → next ≡ slice_index nexts child
    → chain nodes n child ≡ child ∷ chain nodes n next
chain-read {nodes} {firsts} {nexts} {n} {child} walk some read =
    (IsWalk-next nodes firsts nexts n child walk some).1 ∙ ap (λ (k : ℕ). child ∷ chain nodes n k) (sym read)

pub chain-count : {nodes : List CostNode} {firsts nexts : List ℕ} {n child next : ℕ}
    → IsWalk nodes firsts nexts n child → child ≢ 0 → next ≡ slice_index nexts child
    → length (chain nodes n child) ≡ length (chain nodes n next) + 1
chain-count walk some read =
    let longer = ap (λ (xs : List ℕ). length xs) (chain-read walk some read) in omega arith

-- the links of a tree whose nodes are all still to come
zero-replicate : (count n : ℕ) → ◌≡◌ {A = ℕ} (get_or (replicate count 0) n 0) 0
zero-replicate zero n = refl
zero-replicate (suc count) zero = refl
zero-replicate (suc count) (suc n) = zero-replicate count n

pub AreLinksFrom-start : (nodes : List CostNode) (firsts nexts : List ℕ) (m : ℕ) → m + 1 ≡ length nodes + 1
    → 0 < length nodes → firsts ≡ replicate (length nodes) 0 → length nexts ≡ length nodes
    → AreLinksFrom nodes firsts nexts m
AreLinksFrom-start nodes firsts nexts m is some zeros nexts_count =
    let last : length nodes ≡ m = omega arith in
    let P : ℕ → Type 0 = λ k. AreLinksFrom nodes firsts nexts k in
    let count = ap (λ (xs : List ℕ). length xs) zeros ∙ length-replicate (length nodes) 0 in
    subst P last
    (AreLinksFrom-end nodes firsts nexts some count nexts_count
    (λ n. ap (λ (xs : List ℕ). slice_index xs n) zeros ∙ zero-replicate (length nodes) n))

-- a node is linked, as it is read
pub AreLinksFrom-read :
    (nodes : List CostNode) (firsts nexts : List ℕ) (m n child : ℕ) (d : CostNode) → m ≡ n
    → AreLinksFrom nodes firsts nexts (m + 1) → 0 < n → n < length nodes
    → ((k : ℕ) (node : CostNode) → 0 < k → slice_get nodes k ≡ Some node → node.parent < k)
    → child ≡ get_or firsts (get_or nodes n d).parent child
    → AreLinksFrom nodes (set firsts (get_or nodes n d).parent n) (set nexts n child) m
AreLinksFrom-read nodes firsts nexts m n child d is links above within lower read =
    let node : CostNode = get_or nodes n d in
    let at = slice_get-get_or nodes n d within in
    let below = lower n node above at in
    let stored : child ≡ slice_index firsts node.parent =
    get_or_read firsts node.parent child (omega (arith, links.firsts_count)) read 0 in
    let M : ℕ → Type 0 = λ k. AreLinksFrom nodes firsts nexts (k + 1) in
    let R : ℕ → Type 0 = λ k. AreLinksFrom nodes (set firsts node.parent n) (set nexts n child) k in
    let C : ℕ → Type 0 = λ x. AreLinksFrom nodes (set firsts node.parent n) (set nexts n x) n in
    subst R (sym is)
    (subst C (sym stored) (AreLinksFrom-more nodes firsts nexts n node (subst M is links) above at (omega arith)))

-- the numbers of a range that pass a test
pub ranged : (p : ℕ → Bool) (a count : ℕ)
    → All (λ m. (a ≤ m) × ((m < a + count) × (p m ≡ true))) (filter p (range_with_len a count))
ranged p a zero = All-nil (λ m. (a ≤ m) × ((m < a + zero) × (p m ≡ true)))
ranged p a (suc count) =
    let rest =
    All-weaker (λ m. (a + 1 ≤ m) × ((m < a + 1 + count) × (p m ≡ true)))
    (λ m. (a ≤ m) × ((m < a + suc count) × (p m ≡ true)))
    (λ m is. (omega (arith, is.0), (omega (arith, is.1.0), is.1.1))) (filter p (range_with_len (a + 1) count))
    (ranged p (a + 1) count) in
    cond_both (p a) (a ∷ filter p (range_with_len (a + 1) count)) (filter p (range_with_len (a + 1) count))
    (All (λ m. (a ≤ m) × ((m < a + suc count) × (p m ≡ true))))
    (λ passes. All-cons (λ m. (a ≤ m) × ((m < a + suc count) × (p m ≡ true))) a
    (filter p (range_with_len (a + 1) count)) (omega arith, (omega arith, passes)) rest)
    (λ fails. rest)

pub contains_ranged : (p : ℕ → Bool) (a count m : ℕ) → a ≤ m → m < a + count → p m ≡ true
    → Contains (filter p (range_with_len a count)) m
contains_ranged p a zero m low high passes = absurd (omega arith)
contains_ranged p a (suc count) m low high passes =
    cond_both (p a) (a ∷ filter p (range_with_len (a + 1) count)) (filter p (range_with_len (a + 1) count))
    (λ xs. Contains xs m)
    (λ here. elim (cases_lt a m) [
      | inl later ↦ Contains-append_right (a ∷ []) (filter p (range_with_len (a + 1) count)) m
          (contains_ranged p (a + 1) count m (omega arith) (omega arith) passes)
      | inr first ↦ let is : a ≡ m = omega arith in (0, omega arith, is)
    ])
    (λ other. elim (cases_lt a m) [
      | inl later ↦ contains_ranged p (a + 1) count m (omega arith) (omega arith) passes
      | inr first ↦
          let is : m ≡ a = omega arith in
          absurd (false≢true (sym other ∙ ap p (sym is) ∙ passes))
    ])

pub ordered : (p : ℕ → Bool) (a count : ℕ) → AllPairs (λ x y. x < y) (filter p (range_with_len a count))
ordered p a zero = λ i j d before within. absurd (omega arith)
ordered p a (suc count) =
    cond_both (p a) (a ∷ filter p (range_with_len (a + 1) count)) (filter p (range_with_len (a + 1) count))
    (AllPairs (λ x y. x < y))
    (λ here. first_below (filter p (range_with_len (a + 1) count)) (ordered p (a + 1) count) (ranged p (a + 1) count))
    (λ other. ordered p (a + 1) count)
  where
    first_below : (rest : List ℕ) → AllPairs (λ x y. x < y) rest
        → All (λ m. (a + 1 ≤ m) × ((m < a + 1 + count) × (p m ≡ true))) rest → AllPairs (λ x y. x < y) (a ∷ rest)
    first_below rest pairs low zero zero d before within = absurd (omega arith)
    first_below rest pairs low zero (suc j) d before within = let is = low j d (omega arith) in omega (arith, is.0)
    first_below rest pairs low (suc i) zero d before within = absurd (omega arith)
    first_below rest pairs low (suc i) (suc j) d before within = pairs i j d (omega arith) (omega arith)

-- the children of a node are the nodes that have it as their parent, in the order of their numbers
pub children_of-ordered : (nodes : List CostNode) (n : ℕ)
    → AllPairs (λ older younger. older < younger) (children_of nodes n)
unfolding children_from
children_of-ordered nodes n = ordered (has_parent nodes n) 1 (length nodes - 1)

pub children_of-all : (nodes : List CostNode) (n m : ℕ) (node : CostNode) → 0 < m → slice_get nodes m ≡ Some node
    → node.parent ≡ n → Contains (children_of nodes n) m
unfolding children_from
children_of-all nodes n m node above at is =
    let inside = slice_get_within nodes m node at in
    contains_ranged (has_parent nodes n) 1 (length nodes - 1) m (omega arith) (omega arith)
    (has_parent-at nodes n m node at ∙ eq-eqb node.parent n is)

pub children_of-only : (nodes : List CostNode) (n m : ℕ) → Contains (children_of nodes n) m
    → (node : CostNode) × (0 < m) × (slice_get nodes m ≡ Some node) × (node.parent ≡ n)
unfolding children_from
children_of-only nodes n m held =
    let is =
    All-contains (λ k. (1 ≤ k) × ((k < 1 + (length nodes - 1)) × (has_parent nodes n k ≡ true))) (children_of nodes n)
    m (ranged (has_parent nodes n) 1 (length nodes - 1)) held in
    let at = slice_get-get_or nodes m no_node (omega (arith, is.0, is.1.0)) in
    let node : CostNode = get_or nodes m no_node in
    (node, omega (arith, is.0), at, eqb-true node.parent n (sym (has_parent-at nodes n m node at) ∙ is.1.1))
