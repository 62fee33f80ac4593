use Rattle.convert.proofs.LeftBytes.{IsLeft}
use Rattle.convert.proofs.left_bytes.left_bytes.Given as goal

abbrev pub invariant-each_line : goal.invariant-each_line
invariant-each_line l = IsLeft l.tree l.left.items l.roots.items l.place
