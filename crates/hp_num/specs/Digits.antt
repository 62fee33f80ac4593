-- The bytes that are digits. A digit is a byte from `0` to `9`; a hexadecimal one may be `a` to `f`
-- too.
use Rattle.std.specs.Prelude.{ℕ, ◌⊎◌}
use Rattle.std.specs.Int.{IsInRange}

-- '0' to '9'
abbrev pub IsDecimalDigit : ℕ → Type 0
IsDecimalDigit b = IsInRange 48 57 b

-- '0' to '9' and 'a' to 'f'
abbrev pub IsLowerHexDigit : ℕ → Type 0
IsLowerHexDigit b = IsInRange 48 57 b ⊎ IsInRange 97 102 b

-- '0' to '9', 'a' to 'f' and 'A' to 'F'
abbrev pub IsHexDigit : ℕ → Type 0
IsHexDigit b = IsInRange 48 57 b ⊎ IsInRange 97 102 b ⊎ IsInRange 65 70 b
