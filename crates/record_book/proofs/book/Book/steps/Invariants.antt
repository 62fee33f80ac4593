use Rattle.std.proofs.Common.{◌≡◌}
use Rattle.record_book.specs.BookState.{HasStepped}
use Rattle.record_book.proofs.book.Book.steps.Given as goal

-- so many turns are taken
abbrev pub invariant-loop-count : goal.invariant-loop-count
invariant-loop-count l = record {
  stepped : HasStepped l.initial.self.job.scripts l.thread l.count l.initial.self.order l.self.order;
  same_job : l.self.job ≡ l.initial.self.job;
}
