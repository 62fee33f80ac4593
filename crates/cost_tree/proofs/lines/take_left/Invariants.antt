use Rattle.std.proofs.Common.{List, ◌++◌}
use Rattle.std.specs.Prelude.{sum_by}
use Rattle.cost_tree.specs.declared.line.CostLine.{CostLine}
use Rattle.cost_tree.specs.WalkLines.{IsWalking, TakesBehind}
use Rattle.cost_tree.proofs.Walks.{weight}
use Rattle.cost_tree.proofs.lines.take_left.Given as goal

-- the taker has taken some lines, and what is pending has the others
abbrev pub invariant-each_pending : goal.invariant-each_pending
invariant-each_pending g l =
    (rest : List CostLine)
    × ((lines : List CostLine) → IsWalking l.scale l.tree lines l.initial.pending.items
    → IsWalking l.scale l.tree (lines ++ rest) l.pending.items)
    × TakesBehind (g.T.CostLineTaker.takes l.tree) rest l.initial.taker l.taker

abbrev pub decreases-each_pending : goal.decreases-each_pending
decreases-each_pending g l = sum_by (weight l.tree) l.pending.items
