-- The snapshots so far and those that are left are all of them.
use Rattle.std.proofs.Common.{◌≡◌, ℕ, ◌+◌, ◌++◌, List, length}
use Rattle.ht_trace.specs.TableState.{TableState}
use Rattle.massif_tree.specs.FirstLists.{first_lists}
use Rattle.massif_sample.specs.Made.{all_made, told_tree}
use Rattle.massif_sample.proofs.profile.take_all.Given as goal

abbrev pub invariant-each_snapshot : goal.invariant-each_snapshot
invariant-each_snapshot l = record {
  changes : l.replay.changes ≡ l.initial.replay.changes;
  whole : l.fronts.whole ≡ l.initial.fronts.whole;
  all :
      (tables : TableState) (names : List (List ℕ))
      → l.initial.fronts.whole ≡ first_lists tables names (l.options.depth + 1) (length l.initial.fronts.whole)
      → l.snaps
      ++ all_made (told_tree l.options tables names (length l.initial.fronts.whole) l.initial.replay.changes)
      l.array.kept.entries l.array.loads
      ≡ all_made (told_tree l.options tables names (length l.initial.fronts.whole) l.initial.replay.changes)
      l.initial.array.kept.entries l.initial.array.loads;
}

abbrev pub decreases-each_snapshot : goal.decreases-each_snapshot
decreases-each_snapshot l = length l.array.kept.entries
