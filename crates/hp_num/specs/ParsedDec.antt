-- What a text says as a number in decimal digits.
use Rattle.std.specs.Prelude.{ℕ, ◌^◌, ◌&&◌, List, nat_lt, Option, Some, None, if◌then◌else◌}
use Rattle.std.specs.Str.Parse.{digits_value}
use Rattle.hp_num.specs.Numeral.{is_numeral}

-- the number that the digits write, where the text is 1 to 20 of them and the number fits 64 bits, and else no number
unfoldable pub parsed_dec : List ℕ → Option ℕ
parsed_dec text = if is_numeral 10 20 text && nat_lt (digits_value 10 text) (2 ^ 64)
    then Some (digits_value 10 text) else None
