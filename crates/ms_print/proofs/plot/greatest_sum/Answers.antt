use Rattle.std.proofs.Common.{arith}
use Rattle.ms_print.proofs.SumLemmas.{greatest-next}
use Rattle.ms_print.proofs.plot.greatest_sum.Goals as goal

pub each_snap-preserved : goal.each_snap-preserved
each_snap-preserved c =
    let next = greatest-next c.args.snaps.now c.each_snap.place c.at.result.now c.at.ensures.item in
    omega arith
