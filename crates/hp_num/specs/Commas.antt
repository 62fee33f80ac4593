-- How a number is written with commas. In the text with commas a comma stands after each digit that
-- full groups of three digits follow, one group at least.
use Rattle.std.specs.Prelude.{ℕ, ◌%◌, Bool, ◌&&◌, List, [], ◌∷◌, length, decimal, nat_eq, nat_lt, if◌then◌else◌}

-- so many digits are full groups of three, one at least
abbrev pub is_full_groups : ℕ → Bool
is_full_groups count = nat_lt 0 count && nat_eq (count % 3) 0

-- the digits, with a comma after each that full groups of three follow
unfoldable pub with_commas : List ℕ → List ℕ
with_commas [] = []
with_commas (digit ∷ digits) = if is_full_groups (length digits)
    then digit ∷ 44 ∷ with_commas digits else digit ∷ with_commas digits

-- the decimal text of n with its commas
abbrev pub decimal_with_commas : ℕ → List ℕ
decimal_with_commas n = with_commas (decimal n)
