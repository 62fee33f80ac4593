use Rattle.std.proofs.Common.{◌<◌, List, ℕ, length, sym, subst}
use Rattle.massif_file.proofs.LabelLemmas.{label-at}
use Rattle.massif_file.proofs.labels.Labels.at.Goals as goal

pub returns : goal.returns
returns c =
    let held = subst (λ (labels : List (List ℕ)). c.args.number < length labels) (sym c.self.view_is) c.requires.held in
    rw (← c.self.view_is, c.deref.ensures.value)
    (record {
      label = label-at c.self.inside.bytes.items c.self.inside.spans.items c.args.number c.index-span.result.now
          held c.index-span.ensures;
    })
