-- The bytes so far are digits, and the value is theirs and fits 64 bits.
use Rattle.std.proofs.Common.{◌≡◌, ◌<◌, ◌^◌, take}
use Rattle.std.specs.Str.Parse.{AllDigits, digits_value}
use Rattle.hp_num.proofs.decimal.parse_dec.Given as goal

abbrev pub invariant-loop-byte : goal.invariant-loop-byte
invariant-loop-byte l = record {
  digits : AllDigits 10 (take l.byte-index l.text);
  fits : l.value < 2 ^ 64;
  value : l.value ≡ digits_value 10 (take l.byte-index l.text);
}
