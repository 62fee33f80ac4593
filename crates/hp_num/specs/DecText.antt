-- Which texts are numbers in decimal digits. A decimal text is 1 to 20 digits whose value is at
-- most 2^64 - 1.
use Rattle.std.specs.Prelude.{◌≡◌, ℕ, ◌^◌, ◌<◌, ◌≤◌, List, length, slice_index, All}
use Rattle.std.specs.Str.Parse.{digits_value}
use Rattle.hp_num.specs.Digits.{IsDecimalDigit}

-- 1 to 20 decimal digits, and nothing else, whose number fits 64 bits
pub record IsDecText (text : List ℕ) : Type 0 where
  pub not_empty : 0 < length text
  pub at_most_20 : length text ≤ 20
  pub digits : All IsDecimalDigit text
  pub fits : digits_value 10 text < 2 ^ 64

-- the first digit is '0' only where it is the only one
pub record IsShortestDecText (text : List ℕ) : Type 0 where
  pub no_leading_zero : slice_index text 0 ≡ 48 → length text ≡ 1
