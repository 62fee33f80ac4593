use Rattle.std.proofs.Common.{◌≡◌, ℕ, ◌<◌, ◌+◌, All, List, length, sym, ap, ◌∙◌, subst, arith}
use Rattle.cost_tree.specs.CutState.{CutState}
use Rattle.cost_tree.specs.Gathering.{GathersSmall}
use Rattle.cost_tree.specs.SmallCosts.{TakesSmall}
use Rattle.cost_tree.proofs.Gathering.{firsts-held, gathers, gathers-none, lists-count}
use Rattle.cost_tree.proofs.TakingSmall.{written-back}
use Rattle.cost_tree.proofs.cut_fronts.CutFronts.take_small.Goals as goal

pub returns-then-depth-eq0 : goal.returns-then-depth-eq0
returns-then-depth-eq0 c = record {
  gathered = subst
      (λ (d : ℕ). GathersSmall d c.args.scale c.args.self.now.whole c.args.costs.now.items c.args.costs.now.items
      (record { places = 0; cost = 0 })) (sym c.if-depth-eq0.true)
      (gathers-none c.args.scale c.args.self.now.whole c.args.costs.now.items c.requires.as_many);
}

pub ended_costs_into-requires-clause-held : goal.ended_costs_into-requires-clause-held
ended_costs_into-requires-clause-held c =
    let count = c.len-count.ensures.count in
    subst (λ (fs : List ℕ). All (λ (f : ℕ). f < c.len-count.result + 1) fs)
    (sym (c.deref.ensures.value ∙ c.self.invariant.firsts_are))
    (firsts-held c.self.inside.names c.self.inside.whole (c.len-count.result + 1) (omega arith)
    c.self.invariant.texts)

pub take_small-requires-clause-held : goal.take_small-requires-clause-held
take_small-requires-clause-held c =
    let count = c.len-count.ensures.count in
    let sums = ap (λ (ns : List ℕ). length ns) c.deref_mut.ensures.value in
    let all = c.in_ok-ended_costs_into.ensures.count in
    subst (λ (fs : List ℕ). All (λ (f : ℕ). f < length c.deref_mut.result.now) fs)
    (sym (c.deref-3.ensures.value ∙ c.self.invariant.firsts_are))
    (firsts-held c.self.inside.names c.self.inside.whole (length c.deref_mut.result.now) (omega arith)
    c.self.invariant.texts)

pub returns : goal.returns
returns c =
    let names = c.self.inside.names in
    let whole = c.self.inside.whole in
    let scale = c.args.scale in
    let depth = c.args.depth in
    let old = c.args.costs.now.items in
    let new = c.take_small.new.costs in
    let few = c.take_small.result in
    let takes =
    subst (λ (fs : List ℕ). TakesSmall scale fs old new few) (c.deref-3.ensures.value ∙ c.self.invariant.firsts_are)
    (subst (λ (cs : List ℕ). TakesSmall scale c.deref-3.result.now cs new few) c.deref_mut-2.ensures.value
    c.take_small.ensures) in
    let same : length old ≡ length whole =
    c.requires.as_many ∙ sym (ap (λ (s : CutState). length s.whole) c.self.view_is) ∙ lists-count names whole in
    record {
      gathered = subst (λ (cs : List ℕ). GathersSmall depth scale c.args.self.now.whole old cs few)
          (sym (written-back c.args.costs.now.len new old takes.as_many (omega arith)))
          (subst (λ (ls : List (List (List ℕ))). GathersSmall depth scale ls old new few)
          (ap (λ (s : CutState). s.whole) c.self.view_is)
          (gathers names whole scale old new few depth c.len-count.ensures.distinct c.self.invariant.texts same
          (omega (arith, c.if-depth-eq0.false)) takes));
    }
