use Rattle.std.proofs.Common.{◌≡◌, ◌≤◌}
use Rattle.ms_print.specs.Labels.{power_up_to}
use Rattle.ms_print.proofs.label.power_of.Given as goal

abbrev pub invariant-powers : goal.invariant-powers
invariant-powers l = record {
  same : power_up_to l.power l.factor l.value ≡ power_up_to l.initial.power l.factor l.value;
  within : l.power ≤ l.initial.power;
}

abbrev pub decreases-powers : goal.decreases-powers
decreases-powers l = l.power
