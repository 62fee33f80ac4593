-- A text is a percentage where 1 to 3 digits, with or without a point and 1 or 2 digits after them,
-- say at most 100 percent.
use Rattle.std.specs.Prelude.{ℕ, ◌+◌, ◌*◌, Bool, ◌||◌, ◌&&◌, List, [], ◌∷◌, ◌++◌, ◌==◌, length, take, drop, nat_eq}
use Rattle.std.specs.Prelude.{nat_le, Option, Some, None, if◌then◌else◌}
use Rattle.std.specs.List.{position_or_len}
use Rattle.std.specs.Str.Parse.{digits_value}
use Rattle.hp_num.specs.Numeral.{is_numeral}

-- how many bytes stand before the first point
abbrev pub whole_len : List ℕ → ℕ
whole_len text = position_or_len (λ b. b == 46) text

-- nothing, or a byte and 1 or 2 digits after it
abbrev pub is_fraction : List ℕ → Bool
is_fraction rest = nat_eq (length rest) 0 || is_numeral 10 2 (drop 1 rest)

-- the hundredths that the digits after that byte write; where there are none, 0
abbrev pub fraction_value : List ℕ → ℕ
fraction_value rest = digits_value 10 (take 2 (drop 1 rest ++ (48 ∷ 48 ∷ [])))

-- the hundredths of a percent that a text of these two parts writes, where it may be one
abbrev pub percent_of_parts : List ℕ → List ℕ → Option ℕ
percent_of_parts whole rest =
    if is_numeral 10 3 whole && is_fraction rest
    && nat_le (100 * digits_value 10 whole + fraction_value rest) 10000
    then Some (100 * digits_value 10 whole + fraction_value rest)
    else None

-- the hundredths of a percent that the text writes, where it is 1 to 3 digits, with or without a
-- point and 1 or 2 digits after them, and says at most 100 percent; and else no number
unfoldable pub parsed_percent : List ℕ → Option ℕ
parsed_percent text = percent_of_parts (take (whole_len text) text) (drop (whole_len text) text)
