-- A numeral in a base is 1 to so many of its digits, letters being of either case, and nothing
-- else.
use Rattle.std.specs.Prelude.{ℕ, Bool, ◌&&◌, List, length, nat_lt, nat_le}
use Rattle.std.specs.List.{list_all}
use Rattle.std.specs.Char.{is_digit}

-- 1 to `most` digits in the base, whose letters may be of either case, and nothing else
abbrev pub is_numeral : ℕ → ℕ → List ℕ → Bool
is_numeral base most text = nat_lt 0 (length text) && nat_le (length text) most
    && list_all (λ b. is_digit b base) text
