use Rattle.std.proofs.Common.{arith}
use Rattle.std.proofs.Math.Nat.{one-le-pow}
use Rattle.ms_print.proofs.LabelLemmas.{power-small}
use Rattle.ms_print.proofs.label.label_of.Goals as goal

pub pow-requires : goal.pow-requires
pow-requires c =
    let factor = c.factor_of.ensures in
    let small =
    power-small c.factor_of.result c.power_of-power.result factor.some factor.small c.power_of-power.ensures.small in
    omega arith

pub put_scaled-requires-clause-some : goal.put_scaled-requires-clause-some
put_scaled-requires-clause-some c =
    let some = one-le-pow c.power_of-power.result c.factor_of.result c.factor_of.ensures.some in
    let is = c.pow.ensures in
    omega arith

pub put_scaled-requires-clause-small : goal.put_scaled-requires-clause-small
put_scaled-requires-clause-small c =
    let factor = c.factor_of.ensures in
    let small =
    power-small c.factor_of.result c.power_of-power.result factor.some factor.small c.power_of-power.ensures.small in
    let is = c.pow.ensures in
    omega arith
