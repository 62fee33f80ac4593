use Rattle.std.proofs.Common.{arith}
use Rattle.ht_lines.proofs.RawLines.{free-begins}
use Rattle.ht_lines.proofs.raw.free_line.Goals as goal

pub returns : goal.returns
returns c =
    let first = c.in_ok-ptr.ensures in
    free-begins c.args.front.now c.in_ok-ptr.ptr c.in_ok-ptr.end c.requires first
    (omega (arith, c.told-front, first.size, first.most)) c.if-front-end-ne10.false
