-- How hundredths of a percent are written. A percentage is written as its whole percents in two
-- digits at least, a point, two digits and `%`.
use Rattle.std.specs.Prelude.{ℕ, ◌/◌, ◌%◌, List, [], ◌∷◌, ◌++◌, nat_lt, decimal, if◌then◌else◌}

-- n in decimal digits, of which there are at least two
abbrev pub two_digits : ℕ → List ℕ
two_digits n = if nat_lt n 10 then 48 ∷ decimal n else decimal n

-- the whole percents, a point, the hundredths that are left, and '%'
unfoldable pub percent : ℕ → List ℕ
percent hundredths = two_digits (hundredths / 100)
    ++ (46 ∷ (two_digits (hundredths % 100) ++ 37 ∷ []))
