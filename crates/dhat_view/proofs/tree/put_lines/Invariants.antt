use Rattle.std.proofs.Common.{◌≡◌, ◌++◌, take}
use Rattle.std.specs.List.{flat_map}
use Rattle.hp_num.specs.Extends.{Extends}
use Rattle.dhat_view.specs.LinesIn.{text_in}
use Rattle.dhat_view.proofs.tree.put_lines.Given as goal

abbrev pub invariant-each_line : goal.invariant-each_line
invariant-each_line l = record {
  written : l.out.items ≡ l.initial.out.items ++ flat_map (text_in l.scale l.tree) (take l.line-index l.lines);
  kept : Extends l.initial.out.items l.out.items;
}
