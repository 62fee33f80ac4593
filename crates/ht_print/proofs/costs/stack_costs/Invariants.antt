use Rattle.std.specs.Prelude.{◌≡◌, take}
use Rattle.ht_print.specs.FlameCosts.{flame_costs}
use Rattle.ht_print.proofs.costs.stack_costs.Given as goal

-- the costs so far
abbrev pub invariant-each_stack : goal.invariant-each_stack
invariant-each_stack l = l.costs.items ≡ take l.stack (flame_costs l.cost l.peaks)
