-- Numbers as values of options. The value of an option is a number in a range where it is the
-- decimal digits of one, or a percentage up to 100; an option that isn't given has its default, or
-- no number where it has none.
use Rattle.std.specs.Prelude.{ℕ, ◌&&◌, nat_le, List, Option, Some, None, if◌then◌else◌}
use Rattle.std.specs.Option.{option_and_then, option_map}
use Rattle.hp_num.specs.ParsedDec.{parsed_dec}
use Rattle.hp_num.specs.ParsedPercent.{parsed_percent}

-- the number that decimal digits write, where it is within a range
abbrev pub number_within : ℕ → ℕ → List ℕ → Option ℕ
number_within least most text = option_and_then
    (λ number. if nat_le least number && nat_le number most then Some number else None)
    (parsed_dec text)

-- the number of an option: a default where it isn't given
unfoldable pub number_or : ℕ → ℕ → ℕ → Option (List ℕ) → Option ℕ
number_or default least most None = Some default
number_or default least most (Some text) = number_within least most text

-- the number of an option that has no default: none where it isn't given
unfoldable pub number_if_given : ℕ → ℕ → Option (List ℕ) → Option (Option ℕ)
number_if_given least most None = Some None
number_if_given least most (Some text) = option_map Some (number_within least most text)

-- the percentage of an option, in hundredths: 1 percent where it isn't given
unfoldable pub percent_or : Option (List ℕ) → Option ℕ
percent_or None = Some 100
percent_or (Some text) = parsed_percent text
