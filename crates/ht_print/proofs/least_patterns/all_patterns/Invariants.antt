use Rattle.std.specs.Prelude.{◌≡◌, map, take}
use Rattle.ht_print.proofs.least_patterns.all_patterns.Given as goal

-- the patterns so far
abbrev pub invariant-each_pattern : goal.invariant-each_pattern
invariant-each_pattern l = map (λ pattern. pattern.now) l.all.items ≡ take l.place l.tables.patterns
