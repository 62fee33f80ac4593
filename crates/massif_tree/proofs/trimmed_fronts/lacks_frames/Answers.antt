use Rattle.std.proofs.Common.{sym, ◌∙◌}
use Rattle.massif_tree.proofs.Trimming.{trimmed-none}
use Rattle.massif_tree.proofs.trimmed_fronts.lacks_frames.Goals as goal

pub returns : goal.returns
returns g c = record {
  whole = λ unlisted some names are.
      trimmed-none c.args.tables.now names c.args.caller c.innermost_frame-innermost.result
      c.innermost_frame-innermost.ensures.first (sym (c.is_listed.ensures.listed names are) ∙ unlisted);
}
