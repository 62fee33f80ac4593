use Rattle.std.proofs.Common.{◌-◌}
use Rattle.recorder.proofs.workers.+fn-run_between-join+arg2+fn-run_between-join+arg3+run_between.Given as goal

-- how many workers there are
abbrev pub decreases-join+arg2 : goal.decreases-join+arg2
decreases-join+arg2 g l = l.middle - l.first

abbrev pub decreases-join+arg3 : goal.decreases-join+arg3
decreases-join+arg3 g l = l.end - l.middle

abbrev pub decreases-run_between : goal.decreases-run_between
decreases-run_between g l = l.end - l.first
