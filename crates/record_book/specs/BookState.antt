-- What a book stands for; the order with the next turn of a thread, and with several; what a book is
-- once all turns of a thread, or of all threads, are taken.
use Rattle.std.specs.Prelude.{◌≡◌, ℕ, zero, suc, ◌<◌, ◌≤◌, Bool, true, false, List, [], ◌∷◌, ◌++◌, length, nat_lt}
use Rattle.std.specs.Prelude.{slice_get, Option, None, Some, ◌≢◌}
use Rattle.record_scripts.specs.Events.{Event, allocation, free}
use Rattle.record_scripts.specs.declared.script_line.ScriptLine.{ScriptLine}
use Rattle.record_scripts.specs.Job.{IsSameWork, Job}
use Rattle.record_scripts.specs.ScriptTurns.{turn_said}
use Rattle.record_scripts.specs.Turns.{Turn, allocates, frees, reallocates}
use Rattle.record_book.specs.Actions.{events_at, times}
use Rattle.record_book.specs.Orders.{Continues, IsUnder}

-- what is recorded, and the order in which it was so far
pub record Recording : Type 0 where
  pub job : Job
  pub order : List ℕ

-- the entries of a thread's turn that begins with an event: two where a reallocation does, and none
-- where there is no event
abbrev pub turn_entries : ℕ → Option Event → List ℕ
turn_entries thread None = []
turn_entries thread (Some (allocation id size ips)) = thread ∷ []
turn_entries thread (Some (free id false)) = thread ∷ []
turn_entries thread (Some (free id true)) = thread ∷ thread ∷ []

-- those of a turn
abbrev pub entries_of : ℕ → Turn → List ℕ
entries_of thread (allocates id size ips) = thread ∷ []
entries_of thread (frees id) = thread ∷ []
entries_of thread (reallocates id size ips) = thread ∷ thread ∷ []

-- an order with the entries of the turn that a line says by any stack
abbrev pub AppendsTurn : List ℕ → List ℕ → ℕ → ScriptLine → Type 0
AppendsTurn old new thread line = (ips : List ℕ)
    → new ≡ old ++ entries_of thread (turn_said line ips)

-- the order with the next turn of a thread, where its script isn't done
abbrev pub stepped : List (List Turn) → ℕ → List ℕ → List ℕ
stepped scripts thread order = order
    ++ turn_entries thread (slice_get (events_at scripts thread) (times thread order))

-- the second order is the first with so many turns of a thread, whose script isn't done before any of them
abbrev pub HasStepped : List (List Turn) → ℕ → ℕ → List ℕ → List ℕ → Type 0
HasStepped scripts thread zero old new = new ≡ old
HasStepped scripts thread (suc count) old new =
    (mid : List ℕ) × HasStepped scripts thread count old mid
    × (times thread mid < length (events_at scripts thread)) × (new ≡ stepped scripts thread mid)

-- the next turn of a thread is taken, where its script isn't done, and the answer says whether there was one
pub record IsStep (job : Job) (thread : ℕ) (old new : List ℕ) (more : Bool) : Type 0 where
  pub order_is : new ≡ stepped job.scripts thread old
  pub more_is : more ≡ nat_lt (times thread old) (length (events_at job.scripts thread))
  pub done : more ≡ false → times thread new ≡ length (events_at job.scripts thread)
  pub under : IsUnder job.scripts new

-- so many turns of a thread are taken, and fewer than asked only where its script is done
pub record TakesTurns (job : Job) (thread most : ℕ) (old new : List ℕ) (count : ℕ) : Type 0 where
  pub turns : HasStepped job.scripts thread count old new
  pub within : count ≤ most
  pub done : count < most → times thread new ≡ length (events_at job.scripts thread)

-- some turns of a thread are taken, fewer than asked
abbrev pub TakesFewer : Job → ℕ → ℕ → List ℕ → List ℕ → Type 0
TakesFewer job thread most old new = (count : ℕ) × (count < most)
    × HasStepped job.scripts thread count old new

-- the turns that are left of a thread are taken, and none of another
pub record CompletesThread (thread : ℕ) (old new : Recording) : Type 0 where
  pub done : times thread new.order ≡ length (events_at new.job.scripts thread)
  pub others : (other : ℕ) → thread ≢ other → times other new.order ≡ times other old.order
  pub under : IsUnder new.job.scripts new.order
  pub grown : Continues old.order new.order

-- where this is the work that was recorded before, its order goes on
abbrev pub GoesOn : Recording → Job → Recording → Type 0
GoesOn old job new = IsSameWork old.job job → Continues old.order new.order
