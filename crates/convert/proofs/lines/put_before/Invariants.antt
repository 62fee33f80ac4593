use Rattle.std.proofs.Common.{◌≡◌, ◌++◌, drop}
use Rattle.hp_num.specs.Extends.{Extends}
use Rattle.convert.specs.Numbers.{later_texts}
use Rattle.convert.proofs.lines.put_before.Given as goal

abbrev pub invariant-each_text : goal.invariant-each_text
invariant-each_text l = record {
  written : l.out.items ≡ l.initial.out.items ++ later_texts l.names (drop l.place l.before);
  kept : Extends l.initial.out.items l.out.items;
}
