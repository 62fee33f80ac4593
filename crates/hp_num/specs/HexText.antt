-- Which texts are numbers in hexadecimal digits. A hexadecimal text is 1 to 16 digits of either
-- case, and its value is theirs in base 16.
use Rattle.std.specs.Prelude.{◌≡◌, ℕ, ◌<◌, ◌≤◌, List, length, slice_index, All}
use Rattle.hp_num.specs.Digits.{IsHexDigit, IsLowerHexDigit}

-- 1 to 16 hexadecimal digits of either case, and nothing else
pub record IsHexText (text : List ℕ) : Type 0 where
  pub not_empty : 0 < length text
  pub at_most_16 : length text ≤ 16
  pub digits : All IsHexDigit text

-- digits in lower case alone, of which the first is '0' only where it is the only one
pub record IsShortestHexText (text : List ℕ) : Type 0 where
  pub lower_case : All IsLowerHexDigit text
  pub no_leading_zero : slice_index text 0 ≡ 48 → length text ≡ 1
