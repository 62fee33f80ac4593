use Rattle.std.proofs.Common.{refl, arith}
use Rattle.profile_tests.proofs.tests.sampling.options.Goals as goal

pub returns : goal.returns
returns c = record {
  threshold = omega arith;
  inaccuracy = omega arith;
  detailed_freq_least = omega arith;
  detailed_freq_most = omega arith;
  max_least = omega arith;
  max_most = omega arith;
  depth_least = omega arith;
  depth_most = omega arith;
  admin = omega arith;
  exponent = 0;
  alignment = refl;
  alignment_most = omega arith;
  unit = λ same. cc;
}
