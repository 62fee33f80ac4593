-- What a thread does to an order while it has the lock. A hold of the lock is at most 64 turns of
-- one thread. Where more may be left it is 64 of them, and else the thread has taken all turns of
-- its script.
use Rattle.std.specs.Prelude.{◌≡◌, ℕ, ◌≤◌, true, false, Bool, length}
use Rattle.record_book.specs.Actions.{events_at, times}
use Rattle.record_book.specs.BookState.{HasStepped, Recording}

-- one hold of a thread: at most 64 of its turns and no other's. Where more may be left it has 64,
-- and else the thread has taken all turns of its script
pub record IsHold (old new : Recording) (thread : ℕ) (more : Bool) : Type 0 where
  pub count : ℕ
  pub few : count ≤ 64
  pub stepped : HasStepped old.job.scripts thread count old.order new.order
  pub full : more ≡ true → count ≡ 64
  pub done : more ≡ false → times thread new.order ≡ length (events_at old.job.scripts thread)
