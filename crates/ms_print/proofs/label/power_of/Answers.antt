use Rattle.std.proofs.Common.{arith}
use Rattle.ms_print.proofs.LabelLemmas.{power-small}
use Rattle.ms_print.proofs.label.power_of.Goals as goal

pub pow-requires : goal.pow-requires
pow-requires c =
    let factor = c.factor_of-factor.ensures in
    let within = c.powers.invariant.within in
    let last = c.last_power-power.ensures.small in
    let small = power-small c.factor_of-factor.result c.powers.power factor.some factor.small (omega arith) in
    omega arith
