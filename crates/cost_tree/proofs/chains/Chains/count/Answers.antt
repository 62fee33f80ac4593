use Rattle.std.proofs.Common.{ℕ, List, [], length, get_or, sym, ap, ◌∙◌, arith}
use Rattle.std.proofs.lemmas.Option.{slice_get_read}
use Rattle.cost_tree.specs.ChainLists.{chain_lists}
use Rattle.cost_tree.proofs.Chaining.{count-at}
use Rattle.cost_tree.proofs.chains.Chains.count.Goals as goal

pub returns : goal.returns
returns c =
    let numbers = c.self.inside.numbers.items in
    let chains = c.self.inside.chains.items in
    let seen = ap (λ (lists : List (List ℕ)). length lists) c.self.view_is in
    let as_many = c.self.invariant.as_many in
    record {
      count = sym (ap (λ (lists : List (List ℕ)). length (get_or lists c.args.list [])) (sym c.self.view_is)
          ∙ count-at numbers chains (chain_lists numbers chains) c.args.list c.index.result.now c.self.invariant
          (slice_get_read chains (length chains) c.args.list c.index.result.now (omega arith)
          (omega (arith, c.requires.held)) c.index.ensures));
    }
