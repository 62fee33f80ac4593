use Rattle.std.proofs.Common.{◌≡◌, ◌++◌, length}
use Rattle.ht_lines.specs.Fields.{numbers}
use Rattle.ht_lines.specs.Reads.{RangesFit}
use Rattle.interpret.specs.Modules.{ranges_said}
use Rattle.interpret.proofs.modules.read_ranges.Given as goal

-- the ranges so far and those of the rest are all
abbrev pub invariant-ranges-2 : goal.invariant-ranges-2
invariant-ranges-2 l = record {
  read : l.ranges.items ++ ranges_said l.start (numbers l.rest) ≡ ranges_said l.start (numbers l.tail);
  fit : RangesFit l.start (numbers l.rest);
}

abbrev pub decreases-ranges-2 : goal.decreases-ranges-2
decreases-ranges-2 l = length l.rest
