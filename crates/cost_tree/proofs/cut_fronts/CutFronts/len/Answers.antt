use Rattle.std.proofs.Common.{ℕ, List, length, sym, ap, ◌∙◌}
use Rattle.std.proofs.lemmas.List.{length-map}
use Rattle.cost_tree.specs.CutState.{CutState}
use Rattle.cost_tree.specs.Texts.{texts_of}
use Rattle.cost_tree.proofs.Lengthening.{cut-count}
use Rattle.cost_tree.proofs.cut_fronts.CutFronts.len.Goals as goal

pub returns-clause-cut : goal.returns-clause-cut
returns-clause-cut c =
    let cut = c.self.inside.cut in
    let is = c.self.invariant.cut_of in
    c.len.ensures.count
    ∙ sym (cut-count cut.counts.items c.self.inside.whole is.count)
    ∙ sym (ap (λ (ls : List (List ℕ)). length ls) is.lists)
    ∙ sym (length-map cut.shape (texts_of c.self.inside.names))
    ∙ ap (λ (s : CutState). length s.cut) c.self.view_is
