use Rattle.std.proofs.Common.{◌*◌, ◌^◌, ◌≤◌, [], take}
use Rattle.record_scripts.specs.Events.{events_of}
use Rattle.record_scripts.specs.Turns.{script_at}
use Rattle.record_book.specs.Figures.{with_events}
use Rattle.record_book.specs.TallyState.{IsTally}
use Rattle.record_book.proofs.summary.peak_alone.Given as goal

-- the turns before the place are taken
abbrev pub invariant-loop-place : goal.invariant-loop-place
invariant-loop-place l = record {
  tallied : IsTally l.tally (with_events l.thread (events_of (take l.place (script_at l.job.scripts l.thread))) []);
  few : l.place ≤ 2 ^ 24;
  few_bytes : l.tally.allocated ≤ 2 ^ 32 * l.place;
  few_calls : l.tally.calls ≤ l.place;
}
