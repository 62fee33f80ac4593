use Rattle.ht_print.proofs.LeastLemmas.{AreOfFront}
use Rattle.ht_print.proofs.least_patterns.without_longer.Given as goal

-- those of the patterns so far
abbrev pub invariant-each_pattern : goal.invariant-each_pattern
invariant-each_pattern l = AreOfFront (λ pattern. pattern.now) l.all l.pattern-index l.least.items
