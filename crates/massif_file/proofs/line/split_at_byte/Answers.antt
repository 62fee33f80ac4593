-- The place of the first such byte splits the text into the part before it and the part from it on.
use Rattle.std.proofs.Common.{◌∙◌}
use Rattle.massif_file.proofs.LineLemmas.{take-end, drop-end}
use Rattle.massif_file.proofs.line.split_at_byte.Goals as goal

pub returns-clause-before : goal.returns-clause-before
returns-clause-before c =
    c.split_at.ensures.front ∙ take-end c.args.byte c.args.text.now _ _ c.place_of.ensures.place c.unwrap_or-end.ensures

pub returns-clause-from : goal.returns-clause-from
returns-clause-from c =
    c.split_at.ensures.back ∙ drop-end c.args.byte c.args.text.now _ _ c.place_of.ensures.place c.unwrap_or-end.ensures
