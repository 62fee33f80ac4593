use Rattle.std.proofs.Common.{ℕ, List, [], ◌∷◌, ◌++◌, sym, ap, ◌∙◌, arith, append_assoc}
use Rattle.cost_tree.specs.Children.{chain}
use Rattle.cost_tree.proofs.Linking.{IsWalk-read, chain-count, chain-read}
use Rattle.cost_tree.proofs.tree.CostTree.push_children.Goals as goal

pub each_child-smaller : goal.each_child-smaller
each_child-smaller c =
    omega (arith, chain-count c.each_child.invariant.walk c.each_child-test.true c.next_sibling-child.ensures)

pub each_child-preserved : goal.each_child-preserved
each_child-preserved c =
    let now = c.each_child.invariant in
    let left : List ℕ = chain c.self.inside.nodes.items c.args.n c.next_sibling-child.result in
    record {
      walk = IsWalk-read now.walk c.each_child-test.true c.next_sibling-child.ensures;
      rest = ap (λ (xs : List ℕ). xs ++ left) c.in_ok-push.ensures.items
          ∙ append_assoc c.each_child.out.items (c.each_child.child ∷ []) left
          ∙ ap (λ (xs : List ℕ). c.each_child.out.items ++ xs)
          (sym (chain-read now.walk c.each_child-test.true c.next_sibling-child.ensures))
          ∙ now.rest;
      room = omega arith;
    }
