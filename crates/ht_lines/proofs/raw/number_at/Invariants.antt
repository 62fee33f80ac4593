-- The bytes so far are digits, and the number is theirs.
use Rattle.std.proofs.Common.{◌≡◌, take, drop}
use Rattle.std.specs.Str.Parse.{AllDigits, digits_value}
use Rattle.ht_lines.proofs.raw.number_at.Given as goal

abbrev pub invariant-loop-digits : goal.invariant-loop-digits
invariant-loop-digits l = record {
  all : AllDigits 16 (take l.digits (drop l.fn.start l.front));
  value : l.number ≡ digits_value 16 (take l.digits (drop l.fn.start l.front));
}
