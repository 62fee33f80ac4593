use Rattle.std.proofs.Common.{◌≡◌}
use Rattle.ms_print.specs.Bars.{nearest_bar}
use Rattle.ms_print.proofs.cells.nearest_bar.Given as goal

abbrev pub invariant-each_column : goal.invariant-each_column
invariant-each_column l = nearest_bar l.plot l.snaps l.left ≡ nearest_bar l.plot l.snaps l.initial.left

abbrev pub decreases-each_column : goal.decreases-each_column
decreases-each_column l = l.left
