use Rattle.std.proofs.Common.{ℕ, List, ap, subst, ◌∙◌}
use Rattle.std.proofs.lemmas.Result.{on_ok_weaker}
use Rattle.cost_tree.specs.Costed.{costed}
use Rattle.cost_tree.specs.CostLines.{cost_lines}
use Rattle.cost_tree.specs.Cuts.{AreEnough}
use Rattle.cost_tree.specs.Texts.{lists_of}
use Rattle.cost_tree.proofs.Cutting.{lines-cut}
use Rattle.cost_tree.proofs.Lengthening.{cut-texts}
use Rattle.cost_tree.proofs.cut_fronts.CutFronts.lengthen.Goals as goal

pub returns-clause-lines : goal.returns-clause-lines
returns-clause-lines c =
    let names = c.self.inside.names in
    let whole = c.self.inside.whole in
    let counts = c.lengthen.new.self.counts.items in
    let scale = c.args.scale in
    let costs = c.args.room.now.costs.items in
    on_ok_weaker c.lengthen.result
    (λ enough depth.
    ap (λ (lists : List (List (List ℕ))). cost_lines depth scale (costed lists costs))
    (ap (λ (lists : List (List ℕ)). lists_of names lists) c.lengthen.ensures.cut.lists ∙ cut-texts names counts whole)
    ∙ lines-cut depth scale (lists_of names whole) counts costs
    (subst (λ (cs : List ℕ). AreEnough depth scale (costed (lists_of names whole) cs) (lists_of names whole) counts)
    c.deref.ensures.value
    (enough names depth c.len-count.ensures.distinct c.self.invariant.texts)))
    c.lengthen.ensures.enough
