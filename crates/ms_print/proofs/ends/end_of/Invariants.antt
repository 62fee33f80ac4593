use Rattle.ms_print.proofs.TreesOfLemmas.{IsPassed}
use Rattle.ms_print.proofs.ends.end_of.Given as goal

abbrev pub invariant-each_child : goal.invariant-each_child
invariant-each_child l = IsPassed l.tree l.place l.counter l.next
