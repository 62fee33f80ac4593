use Rattle.std.proofs.Common.{ℕ, List, [], sym, ap, subst, ◌∙◌}
use Rattle.cost_tree.specs.declared.chain.Chain.{Chain}
use Rattle.cost_tree.specs.ChainLists.{AreChains, chain_lists}
use Rattle.cost_tree.proofs.Chaining.{AreChains-none, lists-none}
use Rattle.cost_tree.proofs.chains.Chains.new.Goals as goal

pub invariant_of-result : goal.invariant_of-result
invariant_of-result c =
    subst (λ (numbers : List ℕ). AreChains numbers c.new-2.result.items (chain_lists numbers c.new-2.result.items))
    (sym c.new.ensures.items)
    (subst (λ (chains : List Chain). AreChains [] chains (chain_lists [] chains)) (sym c.new-2.ensures.items)
    AreChains-none)

pub returns : goal.returns
returns c = record {
  empty = ap (λ (numbers : List ℕ). chain_lists numbers c.new-2.result.items) c.new.ensures.items
      ∙ ap (λ (chains : List Chain). chain_lists [] chains) c.new-2.ensures.items
      ∙ lists-none;
}
