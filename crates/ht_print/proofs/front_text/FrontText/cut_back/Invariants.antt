use Rattle.std.proofs.Common.{◌+◌}
use Rattle.ht_print.specs.FrontText.{HasRoom, IsBetween}
use Rattle.ht_print.proofs.front_text.FrontText.cut_back.Given as goal

abbrev pub invariant-upwards : goal.invariant-upwards
invariant-upwards l = record {
  between : IsBetween l.tree l.n l.self.text.items l.self.path.items l.between;
  room : HasRoom l.tree l.self;
}

abbrev pub decreases-upwards : goal.decreases-upwards
decreases-upwards l = l.between.at + l.between.above
