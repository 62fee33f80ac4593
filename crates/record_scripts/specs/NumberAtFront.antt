-- A number stands at the front as it is mostly written: one blank, and 1 to 16 digits up to a blank
-- or the end.
use Rattle.std.specs.Prelude.{◌≡◌, ℕ, ◌<◌, ◌≤◌, List, ◌∷◌, ◌++◌, length, take, drop, Some, IsTrue}
use Rattle.std.specs.Str.Parse.{AllDigits, digits_value}
use Rattle.hp_num.specs.ParsedHex.{parsed_hex}
use Rattle.ht_lines.specs.Fields.{field_ends}

-- the text begins with so many digits, which are the number, and a blank or the end is behind them
pub record BeginsWithDigits (text : List ℕ) (number count : ℕ) : Type 0 where
  pub some : 0 < count
  pub most : count ≤ 16
  pub within : count ≤ length text
  pub digits : AllDigits 16 (take count text)
  pub value : number ≡ digits_value 16 (take count text)
  pub ends : IsTrue (field_ends (drop count text))

-- the text is a blank, digits that are the number, and what is behind them, which is the end or begins with a blank
pub record BeginsWithNumber (text : List ℕ) (number : ℕ) (after : List ℕ) : Type 0 where
  pub digits : List ℕ
  pub split : text ≡ 32 ∷ (digits ++ after)
  pub some : 0 < length digits
  pub all : AllDigits 16 digits
  pub parsed : parsed_hex digits ≡ Some number
  pub ends : IsTrue (field_ends after)
