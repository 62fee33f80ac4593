use Rattle.std.proofs.Common.{ℕ, List, map, ap, ◌∙◌, arith}
use Rattle.std.specs.Prelude.{slice_index}
use Rattle.std.proofs.lemmas.Result.{on_ok_weaker}
use Rattle.cost_tree.specs.CutShapes.{ended_cost, equal_cost}
use Rattle.cost_tree.proofs.Lengthening.{shared-are}
use Rattle.cost_tree.proofs.shape.Shape.ended_costs_into.Goals as goal

pub returns : goal.returns
returns c =
    let edges = c.self.inside.edges.keys in
    let ends = c.self.inside.ends.items in
    let costs = c.args.costs.now in
    let sums = c.ended_costs_into.new.sums.items in
    let nodes = c.len-nodes.ensures.count in
    record {
      shared = on_ok_weaker c.costs_at_into.result
          (λ is.
          is
          ∙ ap (λ (ns : List ℕ). map (slice_index ns) c.deref-2.result.now) c.deref-3.ensures.value
          ∙ ap (λ (es : List ℕ). map (slice_index sums) es) c.deref-2.ensures.value
          ∙ shared-are edges ends costs sums c.self.invariant.steps c.self.invariant.held
          (λ node within. c.in_ok-ended_costs_into.ensures.sums node (omega arith)
          ∙ ap (λ (es : List ℕ). ended_cost es costs node) c.deref.ensures.value)
          ∙ ap (λ (lists : List (List ℕ)). map (equal_cost lists costs) lists) c.self.view_is)
          c.costs_at_into.ensures.costs;
    }
