-- How a number is written in hexadecimal digits. The decimal and the hexadecimal text of a number
-- are its shortest ones; hexadecimal letters are in lower case.
use Rattle.std.specs.Prelude.{ℕ, false, List}
use Rattle.std.specs.Fmt.{digits}

-- the shortest hexadecimal text of n in lower case, without '0x'
abbrev pub hexadecimal : ℕ → List ℕ
hexadecimal n = digits 16 false n
