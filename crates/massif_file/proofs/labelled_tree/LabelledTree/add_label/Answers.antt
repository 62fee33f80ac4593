use Rattle.std.proofs.Common.{ℕ, List, ap, ◌∙◌}
use Rattle.std.proofs.lemmas.Result.{on_ok_weaker}
use Rattle.massif_file.specs.LineEntries.{lines_in}
use Rattle.massif_file.proofs.EntryLemmas.{lines-same}
use Rattle.massif_file.proofs.labelled_tree.LabelledTree.add_label.Goals as goal

pub returns-clause-lines : goal.returns-clause-lines
returns-clause-lines c =
    rw (← c.self.view_is)
    (on_ok_weaker c.push.result
    (λ appended. ap (λ (labels : List (List ℕ)). lines_in labels c.self.inside.entries.items) appended
    ∙ lines-same c.self.inside.labels _ c.self.inside.entries.items c.self.invariant)
    c.push.ensures.appended)
