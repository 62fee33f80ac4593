-- The bytes so far are digits, and the number is theirs.
use Rattle.std.proofs.Common.{◌≡◌, take}
use Rattle.std.specs.Str.Parse.{AllDigits, digits_value}
use Rattle.record_scripts.proofs.number.number_at_front.Given as goal

abbrev pub invariant-loop-digits : goal.invariant-loop-digits
invariant-loop-digits l = record {
  all : AllDigits 16 (take l.digits l.text);
  value : l.number ≡ digits_value 16 (take l.digits l.text);
}
