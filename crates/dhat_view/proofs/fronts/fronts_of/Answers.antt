use Rattle.std.proofs.Common.{◌∙◌}
use Rattle.dhat_view.proofs.Numbering.{sound-texts}
use Rattle.dhat_view.proofs.fronts.fronts_of.Goals as goal

pub from_parts-requires : goal.from_parts-requires
from_parts-requires c =
    let table = c.in_ok-table.table in
    let is =
    sound-texts c.args.dhat.now table.names table.numbers.items c.deref.result.now c.in_ok-shape.shape
    c.requires.sound c.in_ok-table.ensures.numbers c.deref.ensures.value c.in_ok-shape.ensures.shape in
    record { texts = is.0 }

pub returns : goal.returns
returns c =
    let table = c.in_ok-table.table in
    let is =
    sound-texts c.args.dhat.now table.names table.numbers.items c.deref.result.now c.in_ok-shape.shape
    c.requires.sound c.in_ok-table.ensures.numbers c.deref.ensures.value c.in_ok-shape.ensures.shape in
    record { fronts = c.from_parts.ensures.lists ∙ is.1 }
