use Rattle.std.proofs.Common.{ℕ, List, refl, take, ap, arith}
use Rattle.std.proofs.lemmas.List.{length-take}
use Rattle.std.proofs.lemmas.List.Filters.{length-filter_both, sum_by-filter_both}
use Rattle.std.proofs.lemmas.List.Sums.{sum_by_more_le}
use Rattle.cost_tree.specs.declared.children.Gathered.{Gathered}
use Rattle.cost_tree.specs.Shares.{cost_at, is_kept_at, is_small_at}
use Rattle.cost_tree.proofs.children.split_children.Goals as goal

pub overflow_add-gathered : goal.overflow_add-gathered
overflow_add-gathered c =
    let tree = c.args.tree.now in
    let done = ap (λ (g : Gathered). g.places) c.each_node.invariant.gathered in
    let both =
    length-filter_both (is_small_at c.args.scale tree) (is_kept_at c.args.scale tree) (λ m. refl)
    (take c.each_node.node-index c.args.nodes.now) in
    let taken = length-take c.each_node.node-index c.args.nodes.now in
    let inside = c.each_node-test.true in
    let few = c.requires.few in
    omega arith

pub overflow_add-gathered-then-is_small : goal.overflow_add-gathered-then-is_small
overflow_add-gathered-then-is_small c =
    let tree = c.args.tree.now in
    let nodes : List ℕ = c.args.nodes.now in
    let done = ap (λ (g : Gathered). g.cost) c.each_node.invariant.gathered in
    let both =
    sum_by-filter_both (is_small_at c.args.scale tree) (is_kept_at c.args.scale tree) (λ m. refl) (cost_at tree)
    (take c.each_node.node-index nodes) in
    let more = sum_by_more_le (cost_at tree) nodes c.each_node.node-index 0 c.each_node-test.true in
    let here = c.cost-cost.ensures in
    let within = c.requires.within in
    omega arith
