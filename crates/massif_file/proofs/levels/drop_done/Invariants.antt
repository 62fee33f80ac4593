-- Ending a level at which no line is to come makes no difference.
use Rattle.std.proofs.Common.{◌≡◌, reverse, vec_len}
use Rattle.massif_file.specs.Levels.{without_done}
use Rattle.massif_file.proofs.levels.drop_done.Given as goal

abbrev pub invariant-levels : goal.invariant-levels
invariant-levels l = without_done (reverse l.to_come.items) ≡ without_done (reverse l.fn.to_come.items)

abbrev pub decreases-levels : goal.decreases-levels
decreases-levels l = vec_len l.to_come
