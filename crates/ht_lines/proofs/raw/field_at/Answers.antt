use Rattle.std.proofs.Common.{arith}
use Rattle.ht_lines.proofs.RawLines.{field-at}
use Rattle.ht_lines.proofs.raw.field_at.Goals as goal

pub returns : goal.returns
returns c =
    let found = c.in_ok-number.ensures in
    field-at c.args.front.now c.args.start c.in_ok-number.digits c.in_ok-number.number (omega (arith, c.told-front))
    c.if-front-start-ne32.false (omega (arith, c.told-front, found.most)) found.some found.most found.digits
    found.value
