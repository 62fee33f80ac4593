use Rattle.std.proofs.Common.{◌≡◌, ◌-◌, drop, reverse, take}
use Rattle.std.specs.Prelude.{sum}
use Rattle.convert.proofs.left_bytes.take_line.Given as goal

abbrev pub invariant-each_child : goal.invariant-each_child
invariant-each_child l = record {
  left : l.left ≡ l.line.bytes - sum (take l.counter (reverse l.initial.roots.items));
  roots : reverse l.roots.items ≡ drop l.counter (reverse l.initial.roots.items);
}
