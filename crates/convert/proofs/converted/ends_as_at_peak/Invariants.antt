use Rattle.std.proofs.Common.{◌≡◌, take}
use Rattle.dhat_json.specs.declared.figure.FigureKey.TheVariants.{Eb, Gb}
use Rattle.dhat_view.specs.PointCosts.{point_costs}
use Rattle.convert.proofs.converted.ends_as_at_peak.Given as goal

abbrev pub invariant-each_point : goal.invariant-each_point
invariant-each_point l = take l.place (point_costs Eb l.dhat) ≡ take l.place (point_costs Gb l.dhat)
