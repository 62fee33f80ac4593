-- What is pushed of a node's children.
use Rattle.std.proofs.Common.{◌≡◌, ℕ, ◌<◌, List, ◌++◌, map, filter, reverse, ap, ◌∙◌, arith}
use Rattle.std.specs.Prelude.{AllPairs}
use Rattle.std.proofs.lemmas.List.{get_or-map, length-map}
use Rattle.std.proofs.lemmas.Simd.{map-map}
use Rattle.cost_tree.specs.Children.{children_of}
use Rattle.cost_tree.specs.TreeState.{TreeState}
use Rattle.cost_tree.specs.declared.children.Child.{Child}
use Rattle.cost_tree.specs.declared.children.Gathered.{Gathered}
use Rattle.cost_tree.specs.declared.scale.Scale.{Scale}
use Rattle.cost_tree.specs.declared.lines.Pending.{Pending}
use Rattle.cost_tree.specs.declared.lines.Pending.TheVariants.{Below}
use Rattle.cost_tree.specs.Shares.{child_at, cost_at, gathered_in, is_kept_at, is_small_at, kept_children}
use Rattle.cost_tree.specs.Shares.{small_children}
use Rattle.cost_tree.specs.Order.{by_cost}
use Rattle.cost_tree.specs.Pendings.{pending_child, pending_children, pending_gathered}
use Rattle.cost_tree.proofs.Orders.{by_cost-map}

-- children of ascending nodes
pub children-ascend : (tree : TreeState) (ms : List ℕ) → AllPairs (λ older younger. older < younger) ms
    → AllPairs (λ older younger. older.node < younger.node) (map (child_at tree) ms)
children-ascend tree ms up i j d before within =
    let count = length-map ms (child_at tree) in
    let one = ap (λ (c : Child). c.node) (get_or-map (child_at tree) ms i 0 d (omega arith)) in
    let two = ap (λ (c : Child). c.node) (get_or-map (child_at tree) ms j 0 d (omega arith)) in
    let lower = up i j 0 before (omega arith) in
    omega arith

-- what the children are split into and sorted is what is pending of them
pub pushed-is : (scale : Scale) (tree : TreeState) (level n : ℕ) (ms : List ℕ) (kept sorted : List Child)
    (gathered : Gathered)
    → ms ≡ children_of tree.nodes n
    → kept ≡ map (child_at tree) (filter (is_kept_at scale tree) ms)
    → sorted ≡ by_cost (λ child. child.cost) kept
    → gathered ≡ gathered_in tree (filter (is_small_at scale tree) ms)
    → pending_gathered level gathered ++ reverse (map (pending_child level) sorted)
    ≡ pending_children scale tree level n
unfolding kept_children small_children
pushed-is scale tree level n ms kept sorted gathered ms_is kept_is sorted_is gathered_is =
    let chosen : List ℕ = filter (is_kept_at scale tree) (children_of tree.nodes n) in
    let kept_now : kept ≡ map (child_at tree) chosen =
    kept_is ∙ ap (λ (xs : List ℕ). map (child_at tree) (filter (is_kept_at scale tree) xs)) ms_is in
    let order : sorted ≡ map (child_at tree) (by_cost (cost_at tree) chosen) =
    sorted_is ∙ ap (λ (xs : List Child). by_cost (λ (child : Child). child.cost) xs) kept_now
    ∙ by_cost-map (λ (child : Child). child.cost) (child_at tree) chosen in
    let nodes : map (pending_child level) sorted ≡ map (Below level) (by_cost (cost_at tree) chosen) =
    ap (λ (xs : List Child). map (pending_child level) xs) order
    ∙ map-map (pending_child level) (child_at tree) (by_cost (cost_at tree) chosen) in
    let small : gathered ≡ gathered_in tree (filter (is_small_at scale tree) (children_of tree.nodes n)) =
    gathered_is ∙ ap (λ (xs : List ℕ). gathered_in tree (filter (is_small_at scale tree) xs)) ms_is in
    ap (λ (g : Gathered). pending_gathered level g ++ reverse (map (pending_child level) sorted)) small
    ∙ ap (λ (ps : List Pending). pending_gathered level
    (gathered_in tree (filter (is_small_at scale tree) (children_of tree.nodes n)))
    ++ reverse ps) nodes
