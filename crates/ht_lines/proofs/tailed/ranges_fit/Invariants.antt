use Rattle.std.proofs.Common.{◌≡◌, length}
use Rattle.ht_lines.specs.Fields.{numbers}
use Rattle.ht_lines.specs.Reading.{ranges_fit}
use Rattle.ht_lines.proofs.tailed.ranges_fit.Given as goal

-- the ranges so far fit
abbrev pub invariant-pairs : goal.invariant-pairs
invariant-pairs l = ranges_fit l.start (numbers l.rest) ≡ ranges_fit l.start (numbers l.tail)

abbrev pub decreases-pairs : goal.decreases-pairs
decreases-pairs l = length l.rest
