use Rattle.std.proofs.Common.{◌≡◌, ◌*◌, ◌-◌, ◌^◌, ◌≤◌, length, take}
use Rattle.record_book.specs.Actions.{actions}
use Rattle.record_book.specs.TallyState.{IsTally}
use Rattle.record_book.proofs.TallyOrders.{AreTaken}
use Rattle.record_book.proofs.summary.tally_order.Given as goal

-- the turns before the entry are taken
abbrev pub invariant-entries : goal.invariant-entries
invariant-entries l = record {
  within : l.entry ≤ length l.order;
  threads : length l.done.items ≡ length l.job.scripts;
  taken : AreTaken l.job.scripts (take l.entry l.order) l.done.items;
  tallied : IsTally l.tally (actions l.job.scripts (take l.entry l.order));
  few_bytes : l.tally.allocated ≤ 2 ^ 32 * l.entry;
  few_calls : l.tally.calls ≤ l.entry;
}

abbrev pub decreases-entries : goal.decreases-entries
decreases-entries l = length l.order - l.entry
