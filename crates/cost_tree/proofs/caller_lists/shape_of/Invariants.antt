use Rattle.std.proofs.Common.{◌≡◌, take}
use Rattle.cost_tree.specs.Told.{told}
use Rattle.cost_tree.proofs.caller_lists.shape_of.Given as goal

-- the lists so far
abbrev pub invariant-each_step : goal.invariant-each_step
invariant-each_step l = l.shape ≡ told (take l.step-index l.steps)
