use Rattle.std.proofs.Common.{arith}
use Rattle.ht_lines.proofs.RawLines.{allocation-begins}
use Rattle.ht_lines.proofs.raw.allocation_line.Goals as goal

pub returns : goal.returns
returns c =
    let third = c.in_ok-ptr.ensures in
    allocation-begins c.args.front.now c.in_ok-size.size c.in_ok-trace.trace c.in_ok-ptr.ptr c.in_ok-size.end
    c.in_ok-trace.end c.in_ok-ptr.end c.requires c.in_ok-size.ensures c.in_ok-trace.ensures third
    (omega (
      arith,
      c.told-front,
      c.in_ok-size.ensures.size,
      c.in_ok-size.ensures.most,
      c.in_ok-trace.ensures.size,
      c.in_ok-trace.ensures.most,
      third.size,
      third.most,
    ))
    c.if-front-end-ne10.false
