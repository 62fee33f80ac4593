-- The levels of a tree's lines, which follow from the counts of their children. A list says how
-- many lines are still to come at each level, from the innermost level outwards. In a tree each
-- line stands before those of its children, and there are as many as it says.
use Rattle.std.specs.Prelude.{ℕ, zero, suc, ◌-◌, List, [], ◌∷◌}

-- the innermost levels at which no line is to come are ended
abbrev pub without_done : List ℕ → List ℕ
without_done [] = []
without_done (zero ∷ outer) = without_done outer
without_done (suc n ∷ outer) = suc n ∷ outer

-- what is to come after a line with so many children
abbrev pub after_line : ℕ → List ℕ → List ℕ
after_line children [] = []
after_line children (n ∷ outer) = without_done (children ∷ (n - 1) ∷ outer)
