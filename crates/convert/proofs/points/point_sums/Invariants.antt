use Rattle.std.proofs.Common.{map, take}
use Rattle.dhat_json.specs.Shown.{shown}
use Rattle.convert.specs.Items.{point_items}
use Rattle.dhat_view.specs.Numbers.{AreNumbers}
use Rattle.convert.specs.Numbers.{AreSums}
use Rattle.convert.proofs.points.point_sums.Given as goal

abbrev pub invariant-each_point : goal.invariant-each_point
invariant-each_point l = record {
  numbers : AreNumbers l.sums.names l.numbers.items (map shown l.dhat.ftbl);
  sums : AreSums l.sums.names l.sums.lists.keys l.sums.sums.items (take l.place (point_items l.key l.dhat));
}
