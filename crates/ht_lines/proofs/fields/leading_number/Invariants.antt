-- The bytes so far are digits, and the number is theirs.
use Rattle.std.proofs.Common.{◌≡◌, ◌-◌, ◌≤◌, length, take}
use Rattle.std.specs.Str.Parse.{AllDigits, digits_value}
use Rattle.ht_lines.proofs.fields.leading_number.Given as goal

abbrev pub invariant-digits : goal.invariant-digits
invariant-digits l = record {
  within : l.digits ≤ length l.text;
  few : l.digits ≤ 16;
  all : AllDigits 16 (take l.digits l.text);
  value : l.number ≡ digits_value 16 (take l.digits l.text);
}

abbrev pub decreases-digits : goal.decreases-digits
decreases-digits l = 16 - l.digits
