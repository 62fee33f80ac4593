-- Lemmas on the nodes of a tree: their fronts, their costs and their children.
use Rattle.std.proofs.Common.{◌≡◌, ℕ, suc, ◌+◌, ◌<◌, ◌≤◌, inl, inr, not, Bool, List, [], ◌∷◌, length, map, filter}
use Rattle.std.proofs.Common.{get_or, Some, refl, sym, ap, ◌∙◌, arith}
use Rattle.std.specs.Prelude.{All, Contains, slice_get, sum_by}
use Rattle.std.specs.Option.{option_map_or}
use Rattle.std.proofs.lemmas.Bool.{cases_lt}
use Rattle.std.proofs.lemmas.List.{length_push}
use Rattle.std.proofs.lemmas.List.Elements.{All-contains_itself, All-filter, All-weaker}
use Rattle.std.proofs.lemmas.List.Sums.{sum_by-cons}
use Rattle.std.proofs.lemmas.Option.{get_or_from_slice_get, slice_get-get_or, slice_get_within}
use Rattle.cost_tree.specs.declared.node.CostNode.{CostNode}
use Rattle.cost_tree.specs.Children.{children_of}
use Rattle.cost_tree.specs.Costed.{Costed}
use Rattle.cost_tree.specs.Inclusive.{inclusive}
use Rattle.cost_tree.specs.IsTreeOf.{IsTreeOf}
use Rattle.cost_tree.specs.NextFronts.{next_fronts}
use Rattle.cost_tree.specs.TreeState.{TreeState}
use Rattle.cost_tree.specs.declared.scale.Scale.{Scale}
use Rattle.cost_tree.specs.Shares.{cost_at, is_kept_at, kept_children, small_children}
use Rattle.cost_tree.specs.Order.{by_cost}
use Rattle.cost_tree.specs.CostLines.{cost_of, is_small, kept_fronts, small_fronts}
use Rattle.cost_tree.specs.TreeLines.{front_at}
use Rattle.cost_tree.proofs.Linking.{children_of-only, no_node}
use Rattle.cost_tree.proofs.Orders.{by_cost-map, by_cost-same, filter-map, filter-same}

-- what a held node costs
pub cost-held : (tree : TreeState) (n : ℕ) (node : CostNode) → slice_get tree.nodes n ≡ Some node
    → cost_at tree n ≡ node.cost
cost-held tree n node held = ap (λ found. option_map_or (λ (m : CostNode). m.cost) found 0) held

pub cost-is : (tree : TreeState) (stacks : List Costed) (depth n : ℕ) → IsTreeOf tree stacks depth
    → n < length tree.nodes → cost_at tree n ≡ inclusive (front_at tree n) stacks
cost-is tree stacks depth n is within =
    let count = is.count in
    let node : CostNode = get_or tree.nodes n no_node in
    let held = slice_get-get_or tree.nodes n no_node within in
    cost-held tree n node held
    ∙ (is.figures n (front_at tree n) node (slice_get-get_or tree.fronts n [] (omega arith)) held).cost

-- a child of a node
pub record IsChildOf (tree : TreeState) (stacks : List Costed) (n m : ℕ) : Type 0 where
  pub within : m < length tree.nodes
  pub lower : n < m
  pub longer : length (front_at tree m) ≡ length (front_at tree n) + 1
  pub cost : cost_at tree m ≡ inclusive (front_at tree m) stacks

child-is : (tree : TreeState) (stacks : List Costed) (depth n m : ℕ) (node : CostNode) → IsTreeOf tree stacks depth
    → 0 < m → slice_get tree.nodes m ≡ Some node → node.parent ≡ n → IsChildOf tree stacks n m
child-is tree stacks depth n m node is above held parent =
    let within = slice_get_within tree.nodes m node held in
    let count = is.count in
    let below = is.below m (front_at tree m) node above (slice_get-get_or tree.fronts m [] (omega arith)) held in
    let lower = below.lower in
    let at : front_at tree n ≡ below.parent_front =
    ap (λ (k : ℕ). front_at tree k) (sym parent)
    ∙ get_or_from_slice_get tree.fronts node.parent below.parent_front [] below.parent in
    let same = ap (λ (xs : List (List ℕ)). length xs) at in
    let push = ap (λ (xs : List (List ℕ)). length xs) below.longer ∙ length_push below.parent_front below.text in
    record { within = within; lower = omega arith; longer = omega arith; cost = cost-is tree stacks depth m is within }

pub children-are : (tree : TreeState) (stacks : List Costed) (depth n : ℕ) → IsTreeOf tree stacks depth
    → All (IsChildOf tree stacks n) (children_of tree.nodes n)
children-are tree stacks depth n is =
    let children : List ℕ = children_of tree.nodes n in
    All-weaker (Contains children) (IsChildOf tree stacks n)
    (λ m held. let found = children_of-only tree.nodes n m held in child-is tree stacks depth n m found.0 is found.1
    found.2 found.3)
    children (All-contains_itself children)

-- of a node whose children have the next fronts
module _ (tree : TreeState) (stacks : List Costed) (scale : Scale) (n : ℕ)
    (all : All (IsChildOf tree stacks n) (children_of tree.nodes n))
    (next : map (front_at tree) (children_of tree.nodes n) ≡ next_fronts (front_at tree n) stacks) where
  -- the fronts that pass a test of what they cost are those of the nodes that do
  filtered-are : (test : ℕ → Bool)
      → filter (λ front. test (cost_of stacks front)) (next_fronts (front_at tree n) stacks)
      ≡ map (front_at tree) (filter (λ m. test (cost_at tree m)) (children_of tree.nodes n))
  filtered-are test =
      let children : List ℕ = children_of tree.nodes n in
      let passes : List (List ℕ) → Bool = λ front. test (cost_of stacks front) in
      let passes_at : ℕ → Bool = λ m. test (cost_at tree m) in
      ap (λ (fronts : List (List (List ℕ))). filter passes fronts) (sym next)
      ∙ filter-map passes (front_at tree) children
      ∙ ap (λ (ms : List ℕ). map (front_at tree) ms)
      (filter-same (λ m. passes (front_at tree m)) passes_at children
      (All-weaker (IsChildOf tree stacks n) (λ m. passes (front_at tree m) ≡ passes_at m)
      (λ m child. ap test (sym child.cost)) children all))

  -- so those that are kept
  pub kept-are : kept_fronts scale stacks (front_at tree n) ≡ map (front_at tree) (kept_children scale tree n)
  unfolding kept_fronts kept_children
  kept-are =
      let children : List ℕ = children_of tree.nodes n in
      let cost : ℕ → ℕ = λ m. cost_of stacks (front_at tree m) in
      let costs : All (λ m. cost m ≡ cost_at tree m) (filter (is_kept_at scale tree) children) =
      All-filter (is_kept_at scale tree) (λ m. cost m ≡ cost_at tree m) children
      (All-weaker (IsChildOf tree stacks n) (λ m. cost m ≡ cost_at tree m) (λ m child. sym child.cost) children all) in
      ap (λ (fronts : List (List (List ℕ))). by_cost (cost_of stacks) fronts)
      (filtered-are (λ c. not (is_small scale c)))
      ∙ by_cost-map (cost_of stacks) (front_at tree) (filter (is_kept_at scale tree) children)
      ∙ ap (λ (ms : List ℕ). map (front_at tree) ms)
      (by_cost-same cost (cost_at tree) (filter (is_kept_at scale tree) children) costs)

  -- and the small ones
  pub small-are : small_fronts scale stacks (front_at tree n) ≡ map (front_at tree) (small_children scale tree n)
  unfolding small_fronts small_children
  small-are = filtered-are (is_small scale)

-- sums of elements that agree
pub sum-same : {X : Type 0} (f g : X → ℕ) (xs : List X) → All (λ x. f x ≡ g x) xs → sum_by f xs ≡ sum_by g xs
sum-same f g [] same = refl
sum-same f g (x ∷ xs) same =
    let one = sum_by-cons f x xs in
    let two = sum_by-cons g x xs in
    let first = same 0 x (omega arith) in
    let rest = sum-same f g xs (λ k d within. same (suc k) d (omega arith)) in
    omega arith

pub sum-mapped : {X Y : Type 0} (f : Y → ℕ) (g : X → Y) (xs : List X) → sum_by f (map g xs) ≡ sum_by (λ x. f (g x)) xs
sum-mapped f g [] = refl
sum-mapped f g (x ∷ xs) =
    let one = sum_by-cons f (g x) (map g xs) in
    let two = sum_by-cons (λ y. f (g y)) x xs in
    let rest = sum-mapped f g xs in
    omega arith

-- the children of a node cost no more than the node, and the node no more than all stacks
pub children-within : (tree : TreeState) (stacks : List Costed) (depth n total : ℕ) → IsTreeOf tree stacks depth
    → n < length tree.nodes
    → All (IsChildOf tree stacks n) (children_of tree.nodes n)
    → (length (front_at tree n) < depth
    → map (front_at tree) (children_of tree.nodes n) ≡ next_fronts (front_at tree n) stacks)
    → (depth ≤ length (front_at tree n) → children_of tree.nodes n ≡ [])
    → sum_by (λ next. inclusive next stacks) (next_fronts (front_at tree n) stacks) ≤ inclusive (front_at tree n) stacks
    → inclusive (front_at tree n) stacks ≤ total
    → sum_by (cost_at tree) (children_of tree.nodes n) ≤ total
children-within tree stacks depth n total is within all next longest sums whole =
    elim (cases_lt (length (front_at tree n)) depth) [
      | inl shorter ↦
          let same =
          sum-same (cost_at tree) (λ m. inclusive (front_at tree m) stacks) (children_of tree.nodes n)
          (All-weaker (IsChildOf tree stacks n) (λ m. cost_at tree m ≡ inclusive (front_at tree m) stacks)
          (λ m child. child.cost) (children_of tree.nodes n) all) in
          let mapped =
          sum-mapped (λ (next : List (List ℕ)). inclusive next stacks) (front_at tree) (children_of tree.nodes n) in
          let fronts =
          ap (λ (fs : List (List (List ℕ))). sum_by (λ (f : List (List ℕ)). inclusive f stacks) fs) (next shorter) in
          omega arith
      | inr over ↦
          let none = ap (λ (ms : List ℕ). sum_by (cost_at tree) ms) (longest (omega arith)) in
          omega arith
    ]
