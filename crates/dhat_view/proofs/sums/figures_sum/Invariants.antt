use Rattle.std.proofs.Common.{◌≡◌, ◌*◌, ◌^◌, ◌≤◌, take}
use Rattle.std.specs.Prelude.{sum}
use Rattle.dhat_view.specs.PointCosts.{point_costs}
use Rattle.dhat_view.proofs.sums.figures_sum.Given as goal

abbrev pub invariant-each_point : goal.invariant-each_point
invariant-each_point l = record {
  total : l.total ≡ sum (take l.place (point_costs l.key l.dhat));
  few : l.total ≤ l.place * 2 ^ 64;
}
