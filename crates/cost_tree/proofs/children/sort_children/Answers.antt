use Rattle.std.proofs.lemmas.List.Sorted.{answers_always}
use Rattle.cost_tree.specs.declared.children.Child.{Child}
use Rattle.cost_tree.proofs.Orders.{by_cost-is}
use Rattle.cost_tree.proofs.Sorting.{before-sorted}
use Rattle.std.proofs.Common.{rules}
use Rattle.cost_tree.proofs.children.sort_children.Goals as goal

pub returns : goal.returns
returns c =
    let up = c.requires.ascending in
    let moved = c.sort_unstable_by_key.ensures.permutation in
    record {
      sorted = by_cost-is c.args.children.now.items c.sort_unstable_by_key.new.self.items up moved
          (before-sorted c.args.children.now.items c.sort_unstable_by_key.new.self.items up moved
          (c.sort_unstable_by_key.ensures.sorted (λ (child : Child). (record { 0 = child.cost }, child.node))
          (answers_always _ _ _ (λ f a r g h. search rules))));
    }
