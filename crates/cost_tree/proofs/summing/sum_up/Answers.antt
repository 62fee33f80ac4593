use Rattle.std.proofs.Common.{◌≡◌, ℕ, ◌+◌, ◌-◌, ◌^◌, ◌<◌, List, length, take, Some, refl, sym, ap, ◌∙◌, subst, arith}
use Rattle.std.specs.Prelude.{slice_get, sum_by}
use Rattle.std.specs.Global.{Vec}
use Rattle.std.proofs.lemmas.List.{length-set}
use Rattle.std.proofs.lemmas.List.Sums.{sum_by-take-le}
use Rattle.std.proofs.lemmas.Option.{slice_get_read}
use Rattle.cost_tree.specs.declared.node.CostNode.{CostNode}
use Rattle.cost_tree.specs.Growth.{weight}
use Rattle.cost_tree.specs.Summed.{AreSumsFrom}
use Rattle.cost_tree.proofs.Totals.{left-fewer, left-moved, parent-lower, sums-parent, sums-root, sums-start}
use Rattle.cost_tree.proofs.Totals.{two-within}
use Rattle.cost_tree.proofs.summing.sum_up.Goals as goal
use Rattle.cost_tree.proofs.summing.sum_up.Goals.{After-index-node, then-node-gt0, else-node-gt0}

pub each_node-init : goal.each_node-init
each_node-init c = record {
  count = refl;
  most = omega (arith, c.requires.some);
  sums = λ m is. sums-start c.args.nodes.now.items m (omega arith);
  left = λ m is. let most = sum_by-take-le weight c.args.nodes.now.items m in omega (arith, c.requires.within);
}

-- the node, which stands behind its parent
node-at : (c : After-index-node)
    → slice_get c.each_node.nodes.items (c.len.result - c.each_node.done) ≡ Some c.index-node.result.now
node-at c =
    let now = c.each_node.invariant in
    let nodes = c.each_node.nodes.items in
    slice_get_read nodes (length nodes) (c.len.result - c.each_node.done) c.index-node.result.now refl
    (omega (arith, now.count)) c.index-node.ensures

node-lower : (c : After-index-node) → c.index-node.result.now.parent < c.len.result - c.each_node.done
node-lower c =
    let now = c.each_node.invariant in
    let n : ℕ = c.len.result - c.each_node.done in
    parent-lower c.args.nodes.now.items c.each_node.nodes.items (n + 1) n c.index-node.result.now
    (now.sums (n + 1) (omega (arith, now.count))) c.requires.lower (omega arith) (node-at c)

-- what is true of nodes at this one is true of nodes that are equal, by the number that it has then
settled : (before made new : List CostNode) (n m : ℕ) → made ≡ new → n ≡ m → AreSumsFrom before made n
    → sum_by weight (take n made) < 2 ^ 64
    → AreSumsFrom before new m × (sum_by weight (take m new) < 2 ^ 64)
settled before made new n m is place sums left = (
  subst (λ (k : ℕ). AreSumsFrom before new k) place (subst (λ (ns : List CostNode). AreSumsFrom before ns n) is sums),
  subst (λ (k : ℕ). sum_by weight (take k new) < 2 ^ 64) place
      (subst (λ (ns : List CostNode). sum_by weight (take n ns) < 2 ^ 64) is left),
)

pub index_mut-requires : goal.index_mut-requires
index_mut-requires c =
    omega (
      arith,
      node-lower (goal.at.index_mut-requires c).After-index-node,
      c.each_node.invariant.count,
    )

pub overflow_add-index_mut : goal.overflow_add-index_mut
overflow_add-index_mut c =
    let shared = (goal.at.overflow_add-index_mut c).After-index-node in
    let now = c.each_node.invariant in
    let nodes = c.each_node.nodes.items in
    let n : ℕ = c.len.result - c.each_node.done in
    let node : CostNode = c.index-node.result.now in
    let lower = node-lower shared in
    let parent_at : slice_get nodes node.parent ≡ Some c.index_mut.result.now =
    slice_get_read nodes (length nodes) node.parent c.index_mut.result.now refl (omega (arith, now.count))
    c.index_mut.ensures.value in
    let both = two-within nodes n node.parent node c.index_mut.result.now (node-at shared) parent_at lower in
    let left = now.left (n + 1) (omega (arith, now.count)) in
    omega arith

pub each_node-preserved : goal.each_node-preserved
each_node-preserved c =
    let shared = (goal.at.each_node-preserved c).After-index-node in
    let now = c.each_node.invariant in
    let before = c.args.nodes.now.items in
    let nodes = c.each_node.nodes.items in
    let n : ℕ = c.len.result - c.each_node.done in
    let node : CostNode = c.index-node.result.now in
    let at = node-at shared in
    let sums = now.sums (n + 1) (omega (arith, now.count)) in
    let left = now.left (n + 1) (omega (arith, now.count)) in
    elim c.if-node-gt0.branch [
      | then-node-gt0 w ↦
          let parent : CostNode = w.index_mut.result.now in
          let lower = node-lower shared in
          let parent_at : slice_get nodes node.parent ≡ Some parent =
          slice_get_read nodes (length nodes) node.parent parent refl (omega (arith, now.count))
          w.index_mut.ensures.value in
          let after = sums-parent before nodes n node parent sums at w.if-node-gt0.true lower parent_at in
          let fewer = left-moved nodes n node.parent node parent at parent_at lower in
          let same = length-set nodes node.parent (record parent { cost = parent.cost + node.cost }) in
          let is = ap (λ (v : Vec CostNode). v.items) w.nodes-is in
          let all = λ (m : ℕ) (place : n ≡ m). settled before _ _ n m (sym is) place after (omega arith) in
          record {
            count = ap (λ (ns : List CostNode). length ns) is ∙ same ∙ now.count;
            most = omega (arith, now.count);
            sums = λ m m_is. (all m (omega (arith, now.count))).0;
            left = λ m m_is. (all m (omega (arith, now.count))).1;
          }
      | else-node-gt0 w ↦
          let after = sums-root before nodes n node sums at (omega (arith, w.if-node-gt0.false)) in
          let fewer = left-fewer nodes n node at in
          let is = ap (λ (v : Vec CostNode). v.items) w.nodes-is in
          let all = λ (m : ℕ) (place : n ≡ m). settled before _ _ n m (sym is) place after (omega arith) in
          record {
            count = ap (λ (ns : List CostNode). length ns) is ∙ now.count;
            most = omega (arith, now.count);
            sums = λ m m_is. (all m (omega (arith, now.count))).0;
            left = λ m m_is. (all m (omega (arith, now.count))).1;
          }
    ]

pub returns : goal.returns
returns c =
    record {
      sums = c.each_node.invariant.sums 1
          (omega (arith, c.each_node.invariant.count, c.each_node.invariant.most));
    }
