use Rattle.std.proofs.Common.{ℕ, List, [], ◌∷◌, ◌++◌, length, sym, ap, ◌∙◌, arith}
use Rattle.std.proofs.lemmas.List.{length-append, take_all}
use Rattle.cost_tree.proofs.Lists.{take-next}
use Rattle.cost_tree.proofs.costing.Costing.list_into.Goals as goal

pub loop-stack-preserved : goal.loop-stack-preserved
loop-stack-preserved g c = record {
  room = let room = c.loop-stack.invariant.room in let same = c.push_reserved.ensures.capacity in omega arith;
  count =
      let so_far = c.loop-stack.invariant.count in
      let more = ap (λ (xs : List ℕ). length xs) c.push_reserved.ensures.items in
      let long = length-append c.loop-stack.costs.items (c.of.result ∷ []) in
      omega arith;
  costs = λ costs are.
      c.push_reserved.ensures.items
      ∙ ap (λ (xs : List ℕ). xs ++ c.of.result ∷ []) (c.loop-stack.invariant.costs costs are)
      ∙ sym (take-next costs c.loop-stack.stack c.of.result (c.of.ensures.cost costs are));
}

pub returns : goal.returns
returns g c =
    record {
      costs = λ costs are. c.loop-stack.invariant.costs costs are
          ∙ take_all c.loop-stack.stack costs (omega (arith, are.count));
    }
