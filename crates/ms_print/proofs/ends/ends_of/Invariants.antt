use Rattle.ms_print.specs.Ends.{AreEnds}
use Rattle.ms_print.proofs.ends.ends_of.Given as goal

abbrev pub invariant-each_line : goal.invariant-each_line
invariant-each_line l = AreEnds l.tree l.place l.ends.items
