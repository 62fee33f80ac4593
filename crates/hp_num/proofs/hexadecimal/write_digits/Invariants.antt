-- The text of what is left, followed by what stands from the digits written so far on, is the text
-- of the number and what stood behind its place.
use Rattle.std.proofs.Common.{◌≡◌, ◌<◌, ◌≤◌, ◌+◌, ◌^◌, ◌++◌, length, drop}
use Rattle.hp_num.specs.Hexadecimal.{hexadecimal}
use Rattle.hp_num.proofs.hexadecimal.write_digits.Given as goal

abbrev pub invariant-digits : goal.invariant-digits
invariant-digits l = record {
  sized : length l.buffer ≡ length l.initial.buffer;
  in_range : l.start ≤ l.fn.end;
  number : l.rest < 2 ^ 64;
  room : length (hexadecimal l.rest) ≤ l.start;
  most : l.fn.end + length (hexadecimal l.rest) ≤ l.start + 16;
  same : hexadecimal l.rest ++ drop l.start l.buffer ≡ hexadecimal l.fn.n ++ drop l.fn.end l.initial.buffer;
}

abbrev pub decreases-digits : goal.decreases-digits
decreases-digits l = l.start
