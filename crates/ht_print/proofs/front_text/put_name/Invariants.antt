use Rattle.std.proofs.Common.{◌≡◌, ◌+◌, ◌++◌, take}
use Rattle.std.specs.Prelude.{vec_capacity, vec_len}
use Rattle.ht_print.specs.FlameText.{flame_name}
use Rattle.ht_print.proofs.front_text.put_name.Given as goal

abbrev pub invariant-each_byte : goal.invariant-each_byte
invariant-each_byte l = record {
  written : l.out.items ≡ l.initial.out.items ++ flame_name (take l.byte-index l.text);
  length : vec_len l.out ≡ vec_len l.initial.out + l.byte-index;
  capacity : vec_capacity l.out ≡ vec_capacity l.initial.out;
}
