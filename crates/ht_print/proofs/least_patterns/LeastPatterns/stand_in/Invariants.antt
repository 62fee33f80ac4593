use Rattle.std.proofs.Common.{◌≡◌, ◌<◌, ℕ, false, drop}
use Rattle.ht_print.specs.LeastPatterns.{begins_any}
use Rattle.ht_print.proofs.least_patterns.LeastPatterns.stand_in.Given as goal

-- no pattern stands at the places so far
abbrev pub invariant-each_place : goal.invariant-each_place
invariant-each_place l =
    (k : ℕ) → k < l.from → begins_any (λ pattern. pattern.now) l.self.patterns.items (drop k l.text) ≡ false
