use Rattle.std.proofs.Common.{◌≡◌, ℕ, ◌<◌, length}
use Rattle.record_book.specs.Actions.{events_at, times}
use Rattle.record_book.specs.Orders.{Continues, IsUnder}
use Rattle.record_book.proofs.book.Book.complete.Given as goal

-- the scripts of the threads so far are done
abbrev pub invariant-loop-thread : goal.invariant-loop-thread
invariant-loop-thread l = record {
  done : (thread : ℕ) → thread < l.thread → times thread l.self.order ≡ length (events_at l.self.job.scripts thread);
  under : IsUnder l.self.job.scripts l.self.order;
  same_job : l.self.job ≡ l.initial.self.job;
  grown : Continues l.initial.self.order l.self.order;
}
