use Rattle.std.proofs.Common.{arith}
use Rattle.ht_lines.proofs.RawLines.{node-begins}
use Rattle.ht_lines.proofs.raw.node_line.Goals as goal

pub returns : goal.returns
returns c =
    let first = c.in_ok-ip.ensures in
    let second = c.in_ok-parent.ensures in
    node-begins c.args.front.now c.in_ok-ip.ip c.in_ok-parent.parent c.in_ok-ip.end c.in_ok-parent.end c.requires first
    second
    (omega (arith, c.told-front, first.size, first.most, second.size, second.most)) c.if-front-end-ne10.false
