use Rattle.std.proofs.Common.{◌≡◌, ◌+◌, ◌++◌, length, map, take}
use Rattle.std.specs.Prelude.{vec_capacity, vec_len}
use Rattle.ht_print.specs.FlameText.{flame_rest}
use Rattle.ht_print.specs.FlameWalk.{last_text}
use Rattle.ht_print.proofs.front_text.put_rest.Given as goal

abbrev pub invariant-each_node : goal.invariant-each_node
invariant-each_node l = record {
  written : l.out.items ≡ l.initial.out.items ++ flame_rest (map (last_text l.tree) (take l.node-index l.rest));
  capacity : vec_capacity l.out ≡ vec_capacity l.initial.out;
}
