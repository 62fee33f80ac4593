use Rattle.std.proofs.Common.{◌≡◌, reverse, vec_len}
use Rattle.convert.specs.Levels.{without_done}
use Rattle.convert.proofs.path.take_one.Given as goal

abbrev pub invariant-levels : goal.invariant-levels
invariant-levels l = without_done (reverse l.levels.items) ≡ without_done (reverse l.fn.levels.items)

abbrev pub decreases-levels : goal.decreases-levels
decreases-levels l = vec_len l.levels
