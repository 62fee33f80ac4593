-- The peak is the greatest of the totals, at the first place where it stands.
use Rattle.std.specs.Prelude.{ℕ, ◌==◌, max, List, [], ◌∷◌}
use Rattle.std.specs.List.{position_or_len}

-- the greatest of the numbers, and 0 where there are none
abbrev pub greatest : List ℕ → ℕ
greatest [] = 0
greatest (number ∷ numbers) = max number (greatest numbers)

-- the first place, from 0, at which the greatest stands
abbrev pub first_greatest : List ℕ → ℕ
first_greatest numbers = position_or_len (λ number. number == greatest numbers) numbers
