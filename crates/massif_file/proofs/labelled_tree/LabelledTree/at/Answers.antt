use Rattle.std.proofs.Common.{◌<◌, length, sym, subst}
use Rattle.massif_file.specs.LabelledLines.{LabelledLines}
use Rattle.massif_file.proofs.EntryLemmas.{line-at}
use Rattle.massif_file.proofs.labelled_tree.LabelledTree.at.Goals as goal

pub returns : goal.returns
returns c =
    let held = subst (λ (tree : LabelledLines). c.args.i < length tree.lines) (sym c.self.view_is) c.requires in
    rw (← c.self.view_is)
    (record {
      item = line-at c.self.inside.labels c.self.inside.entries.items c.args.i c.index-entry.result.now
          c.at.result.now held c.index-entry.ensures c.at.ensures.label;
    })
