use Rattle.std.proofs.Common.{◌≡◌, take}
use Rattle.dhat_view.specs.Numbers.{numbers_in}
use Rattle.dhat_view.proofs.fronts.point_shape.Given as goal

abbrev pub invariant-each_point : goal.invariant-each_point
invariant-each_point l = l.shape ≡ numbers_in l.table (take l.place l.points)
