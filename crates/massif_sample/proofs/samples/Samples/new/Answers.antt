use Rattle.std.proofs.Common.{refl, rules}
use Rattle.massif_sample.proofs.Sampling.{sampling-none}
use Rattle.massif_sample.proofs.samples.Samples.new.Goals as goal

pub returns : goal.returns
returns c = record {
  options = search rules;
  running = search rules;
  fronts = search rules;
  sampling =
      λ names tables. sampling-none _ names tables c.new-2.ensures c.in_ok-array.ensures.stands
      c.in_ok-array.ensures.kept refl (search rules) (search rules);
}
