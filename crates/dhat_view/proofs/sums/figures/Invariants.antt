use Rattle.std.proofs.Common.{◌≡◌, take}
use Rattle.dhat_view.specs.PointCosts.{point_costs}
use Rattle.dhat_view.proofs.sums.figures.Given as goal

abbrev pub invariant-each_point : goal.invariant-each_point
invariant-each_point l = l.figures.items ≡ take l.place (point_costs l.key l.dhat)
