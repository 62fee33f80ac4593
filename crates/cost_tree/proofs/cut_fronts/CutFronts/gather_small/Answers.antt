use Rattle.std.proofs.Common.{ℕ, ◌^◌, ◌≤◌, List, length, sum, sym, ap, ◌∙◌, subst}
use Rattle.std.proofs.lemmas.Result.{IfOk-weaker}
use Rattle.cost_tree.specs.Gathering.{GathersSmall}
use Rattle.cost_tree.proofs.cut_fronts.CutFronts.gather_small.Goals as goal

pub take_small-requires : goal.take_small-requires
take_small-requires g c =
    let are = c.requires.stated.1 in
    let is = c.in_ok-list_into.ensures.costs c.requires.stated.0 are in
    record {
      as_many = ap (λ (cs : List ℕ). length cs) is ∙ are.count ∙ c.requires.as_many;
      bound = subst (λ (cs : List ℕ). sum cs ≤ 2 ^ 62) (sym is) are.bound;
    }

pub returns : goal.returns
returns g c = record {
  gathered = IfOk-weaker c.take_small.result _ _
      (λ few gathers costs are.
      subst (λ (cs : List ℕ). GathersSmall c.args.depth c.args.scale c.args.self.now.whole cs
      c.take_small.new.costs.items few)
      (c.in_ok-list_into.ensures.costs costs are) gathers)
      c.take_small.ensures.gathered;
}
