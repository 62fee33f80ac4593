use Rattle.std.proofs.Common.{map, take}
use Rattle.dhat_json.specs.Shown.{shown}
use Rattle.dhat_view.specs.Numbers.{AreNumbers}
use Rattle.convert.specs.Numbers.{AreSums}
use Rattle.convert.specs.TreeItems.{tree_items}
use Rattle.convert.proofs.Walks.{IsAt}
use Rattle.convert.proofs.massif.add_lines.Given as goal

abbrev pub invariant-each_line : goal.invariant-each_line
invariant-each_line l = record {
  numbers : AreNumbers l.sums.names l.numbers (map (λ line. shown line.label) l.tree);
  walk : IsAt l.sums.names l.tree l.walk.levels.items l.place;
  sums : AreSums l.sums.names l.sums.lists.keys l.sums.sums.items (take l.place (tree_items l.tree));
}
