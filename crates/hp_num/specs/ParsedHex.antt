-- What a text says as a number in hexadecimal digits.
use Rattle.std.specs.Prelude.{ℕ, List, Option, Some, None, if◌then◌else◌}
use Rattle.std.specs.Str.Parse.{digits_value}
use Rattle.hp_num.specs.Numeral.{is_numeral}

-- the number that the digits write, where the text is 1 to 16 of them, and else no number
unfoldable pub parsed_hex : List ℕ → Option ℕ
parsed_hex text = if is_numeral 16 16 text then Some (digits_value 16 text) else None
