use Rattle.std.proofs.Common.{◌≡◌, ◌<◌, ◌≤◌, length, take}
use Rattle.std.specs.Prelude.{slice_index}
use Rattle.cost_history.specs.Changes.{IsBetween}
use Rattle.cost_history.proofs.Sifting.{Sifting}
use Rattle.cost_history.proofs.thinning.sift.Given as goal

abbrev pub invariant-changes : goal.invariant-changes
invariant-changes l = record {
  sifting : Sifting l.fn.changes.items l.changes.items l.seen.items l.kept l.last l.left l.i;
  seen_long : length l.seen.items ≡ length l.fn.seen.items;
  next_within : l.next ≤ length l.kept;
  ahead : l.next < length l.kept
      → IsBetween (length l.seen.items) 0 (take l.i l.changes.items) (slice_index l.kept l.next);
}

abbrev pub decreases-changes : goal.decreases-changes
decreases-changes l = l.i
