-- Whether a text has one of the patterns in it for which some stand, for private clauses.
use Rattle.std.specs.Prelude.{◌≡◌, ℕ, Bool, List}
use Rattle.ht_print.specs.declared.least_patterns.LeastPatterns.{LeastPatterns}
use Rattle.ht_print.specs.LeastPatterns.{AreLeast}
use Rattle.ht_print.specs.Suppressed.{meets_any}

-- they stand for these patterns
abbrev pub AreLeastOf : List (List ℕ) → LeastPatterns → Type 0
AreLeastOf patterns least = AreLeast (λ pattern. pattern.now) patterns least.patterns.items

-- the answer tells whether one of the patterns that they stand for is in the text
abbrev pub TellsMet : LeastPatterns → List ℕ → Bool → Type 0
TellsMet least text answer = (patterns : List (List ℕ)) → AreLeastOf patterns least
    → answer ≡ meets_any patterns text
