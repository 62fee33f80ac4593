use Rattle.std.proofs.Common.{◌≡◌, ℕ, ◌+◌, ◌-◌, ◌<◌, ◌≤◌, ◌++◌, length, take}
use Rattle.std.specs.Prelude.{vec_capacity, vec_len}
use Rattle.cost_history.specs.Changes.{IsBetween}
use Rattle.cost_history.specs.HistoryState.{changes_to}
use Rattle.cost_history.specs.Marks.{candidates}
use Rattle.cost_history.proofs.history.push_changes.Given as goal

abbrev pub invariant-loop-i : goal.invariant-loop-i
invariant-loop-i g l = record {
  most : length l.changes.items ≤ length l.fn.changes.items + l.i;
  room : vec_len l.changes + (l.count - l.i) ≤ vec_capacity l.changes;
  pushed : (costs : ℕ → ℕ)
      → ((stack says : ℕ) → stack < l.stacks → goal.F-post g l.cost stack says → says ≡ costs stack) →
      l.changes.items
      ≡ l.fn.changes.items ++ changes_to l.stacks l.place costs (take l.i (candidates l.marks.marks l.stacks));
  between : (all last : ℕ) → l.stacks ≤ all → last ≤ l.place → IsBetween all 0 l.fn.changes.items last
      → IsBetween all 0 l.changes.items l.place;
}
