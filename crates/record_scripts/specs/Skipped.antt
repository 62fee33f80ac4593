-- Empty lines and lines that begin with `#` say nothing.
use Rattle.std.specs.Prelude.{ℕ, Bool, true, ◌==◌, List, [], ◌∷◌}

-- the line is empty, or begins with `#`
abbrev pub is_skipped : List ℕ → Bool
is_skipped [] = true
is_skipped (b ∷ rest) = b == 35
