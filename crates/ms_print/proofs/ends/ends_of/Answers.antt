use Rattle.std.proofs.Common.{arith}
use Rattle.ms_print.proofs.TreesOfLemmas.{ends-more}
use Rattle.ms_print.proofs.ends.ends_of.Goals as goal

pub each_line-preserved : goal.each_line-preserved
each_line-preserved c =
    ends-more c.args.tree.now c.each_line.ends.items c.each_line.place c.end_of.result (omega arith) (omega arith)
    c.each_line.invariant c.end_of.ensures
