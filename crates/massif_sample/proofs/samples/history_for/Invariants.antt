use Rattle.std.proofs.Common.{◌≡◌}
use Rattle.cost_history.specs.HistoryState.{no_history}
use Rattle.massif_sample.proofs.samples.history_for.Given as goal

abbrev pub invariant-loop : goal.invariant-loop
invariant-loop l = l.history.history ≡ no_history
