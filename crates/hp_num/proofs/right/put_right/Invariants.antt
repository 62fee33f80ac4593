-- Blanks stand after what was there, and there is room for what is left to append.
use Rattle.std.proofs.Common.{◌≡◌, ◌+◌, ◌≤◌, ◌++◌, length, max, replicate, vec_len, vec_capacity}
use Rattle.hp_num.proofs.right.put_right.Given as goal

abbrev pub invariant-loop : goal.invariant-loop
invariant-loop l = record {
  items : l.out.items ≡ l.fn.out.items ++ replicate l.counter 32;
  len : vec_len l.out ≡ vec_len l.fn.out + l.counter;
  room : vec_len l.fn.out + max l.width (length l.bytes) ≤ vec_capacity l.out;
  capacity : vec_capacity l.fn.out ≤ vec_capacity l.out;
}
