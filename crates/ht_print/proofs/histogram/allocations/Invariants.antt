use Rattle.std.specs.Prelude.{◌≡◌, ◌≤◌, ◌*◌, ◌^◌}
use Rattle.ht_print.specs.Histogram.{weight}
use Rattle.ht_print.proofs.Sizes.{weighed-first}
use Rattle.ht_print.proofs.histogram.allocations.Given as goal

-- the allocations of the infos so far are summed
abbrev pub invariant-each_info : goal.invariant-each_info
invariant-each_info l = record {
  summed : l.calls ≡ weighed-first (weight l.least l.greatest) l.ledger.infos l.ledger.info_calls l.info;
  bound : l.calls ≤ l.info * 2 ^ 32;
}
