use Rattle.std.proofs.Common.{◌<◌, length, get_or, set, ap, ◌∙◌, arith}
use Rattle.std.proofs.lemmas.List.{get_or_default}
use Rattle.std.proofs.lemmas.List.Edits.{map_over_more}
use Rattle.convert.specs.Folded.{folded_byte}
use Rattle.convert.proofs.lines.make_plain.Goals as goal

pub each_byte-preserved : goal.each_byte-preserved
each_byte-preserved c =
    let text = c.each_byte.text in
    let at = c.each_byte.byte-index in
    let within : at < length text = omega arith in
    let inside : at < length c.args.text.now = omega arith in
    ap (set text at) c.plain_byte.ensures
    ∙ map_over_more folded_byte c.args.text.now text at (get_or text at 0) inside c.each_byte.invariant
    (get_or_default text at 0 (get_or text at 0) within)
