use Rattle.std.proofs.Common.{◌≡◌, take}
use Rattle.dhat_view.specs.Numbers.{numbers_in}
use Rattle.convert.proofs.point_lists.point_numbers.Given as goal

abbrev pub invariant-each_point : goal.invariant-each_point
invariant-each_point l = l.lists ≡ numbers_in l.table (take l.place l.points)
