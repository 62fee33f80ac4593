use Rattle.std.proofs.Common.{◌≡◌, ◌≢◌, ℕ, ◌-◌, length}
use Rattle.record_book.specs.Actions.{events_at, times}
use Rattle.record_book.specs.Orders.{Continues}
use Rattle.record_book.proofs.book.Book.complete_thread.Given as goal

-- the turns so far are the thread's
abbrev pub invariant-turns : goal.invariant-turns
invariant-turns l = record {
  others : (other : ℕ) → l.thread ≢ other → times other l.self.order ≡ times other l.initial.self.order;
  same_job : l.self.job ≡ l.initial.self.job;
  grown : Continues l.initial.self.order l.self.order;
}

abbrev pub decreases-turns : goal.decreases-turns
decreases-turns l = length (events_at l.self.job.scripts l.thread) - times l.thread l.self.order
