use Rattle.std.proofs.Common.{◌≡◌, ℕ, ◌+◌, ◌<◌, List, [], ◌∷◌, ◌++◌, length, min, take, sym, ap, subst, ◌∙◌, arith}
use Rattle.std.specs.Prelude.{IfSome}
use Rattle.cost_tree.specs.declared.chain.Chain.{Chain}
use Rattle.cost_tree.specs.ChainLists.{AreChains, chain_lists}
use Rattle.cost_tree.specs.Following.{following}
use Rattle.cost_tree.proofs.Chaining.{HasChained, chained}
use Rattle.cost_tree.proofs.chains.Chains.push.Goals as goal
use Rattle.cost_tree.proofs.chains.Chains.push.Goals.{After-push_reserved}

-- the list that is appended
abbrev chain : After-push_reserved → Chain
chain c =
    record {
      start = c.len-start.result;
      end = c.len-end.result;
      next = c.args.next;
      count = c.at_most-count.result;
    }

-- the lists with it
has : (c : After-push_reserved)
    → HasChained c.self.inside.numbers.items c.args.own.now c.self.inside.chains.items (chain c) c.args.most
has c =
    let own = c.args.own.now in
    let most = c.args.most in
    let seen = ap (λ (lists : List (List ℕ)). length lists) c.self.view_is in
    let as_many = c.self.invariant.as_many in
    chained c.self.inside.numbers.items own c.self.inside.chains.items (chain c) most c.self.invariant
    (omega (arith, c.len-start.ensures)) (omega (arith, c.len-end.ensures, c.in_ok-extend_from_slice.ensures.len))
    (subst (λ (lists : List (List ℕ)). IfSome c.args.next (λ k. k < length lists)) (sym c.self.view_is)
    c.requires.earlier)
    (c.at_most-count.ensures
    ∙ ap (λ (k : ℕ). min most (length own + k))
    (c.count_following.ensures.count
    ∙ ap (λ (lists : List (List ℕ)). length (following lists c.args.next)) (sym c.self.view_is)))
    (omega (arith, c.requires.few))

-- it stands behind those that were held
behind : (c : After-push_reserved) → c.push_reserved.new.self.items ≡ c.self.inside.chains.items ++ chain c ∷ []
behind c = c.push_reserved.ensures.items ∙ ap (λ (cs : List Chain). cs ++ chain c ∷ []) c.in_ok-reserve.ensures.items

pub invariant_of-self-2 : goal.invariant_of-self-2
invariant_of-self-2 c =
    let now = c.self.inside.numbers.items ++ c.args.own.now in
    subst (λ (ns : List ℕ). AreChains ns c.push_reserved.new.self.items (chain_lists ns c.push_reserved.new.self.items))
    (sym c.in_ok-extend_from_slice.ensures.items)
    (subst (λ (cs : List Chain). AreChains now cs (chain_lists now cs)) (sym (behind c)) (has c).are)

pub returns-clause-appended : goal.returns-clause-appended
returns-clause-appended c =
    let own = c.args.own.now in
    ap (λ (ns : List ℕ). chain_lists ns c.push_reserved.new.self.items) c.in_ok-extend_from_slice.ensures.items
    ∙ ap (λ (cs : List Chain). chain_lists (c.self.inside.numbers.items ++ own) cs) (behind c)
    ∙ (has c).lists
    ∙ ap (λ (lists : List (List ℕ)). lists ++ take c.args.most (own ++ following lists c.args.next) ∷ []) c.self.view_is
