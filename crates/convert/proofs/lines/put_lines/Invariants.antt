use Rattle.std.proofs.Common.{◌≡◌, ◌++◌, take}
use Rattle.hp_num.specs.Extends.{Extends}
use Rattle.convert.specs.Folded.{lines_text}
use Rattle.convert.specs.Numbers.{lines_at}
use Rattle.convert.proofs.lines.put_lines.Given as goal

abbrev pub invariant-each_list : goal.invariant-each_list
invariant-each_list l = record {
  written : l.out.items
      ≡ l.initial.out.items ++ lines_text (take l.place (lines_at l.sums.names l.sums.lists.keys l.sums.sums.items));
  kept : Extends l.initial.out.items l.out.items;
}
