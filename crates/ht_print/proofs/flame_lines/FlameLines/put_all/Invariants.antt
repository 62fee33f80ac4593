use Rattle.std.proofs.Common.{◌≡◌, ◌++◌, List, ℕ}
use Rattle.ht_print.specs.FlameLines.{HasGiven}
use Rattle.ht_print.proofs.flame_lines.FlameLines.put_all.Given as goal

abbrev pub invariant-each_line : goal.invariant-each_line
invariant-each_line l = HasGiven l.initial.self.rest l.self.rest l.initial.out.items l.out.items

abbrev pub decreases-each_line : goal.decreases-each_line
decreases-each_line l = l.self.left
