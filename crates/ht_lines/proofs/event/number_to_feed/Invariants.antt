-- The bytes so far are digits, and the number is theirs.
use Rattle.std.proofs.Common.{◌≡◌, take, drop}
use Rattle.std.specs.Str.Parse.{AllDigits, digits_value}
use Rattle.ht_lines.proofs.event.number_to_feed.Given as goal

abbrev pub invariant-loop-digits : goal.invariant-loop-digits
invariant-loop-digits l = record {
  all : AllDigits 16 (take l.digits (drop 2 l.front));
  value : l.number ≡ digits_value 16 (take l.digits (drop 2 l.front));
}
