-- What a check keeps of the recording is the lines of the turn that was begun last, or before any
-- turn what stands before them, or nothing.
use Rattle.std.specs.Prelude.{◌≡◌, ◌⊎◌, ℕ, List, []}
use Rattle.record_scripts.specs.Job.{Job}
use Rattle.record_book.specs.BookState.{stepped}
use Rattle.record_book.specs.RecordedTrace.{recorded}
use Rattle.order_check.specs.CheckState.{CheckState}
use Rattle.order_check.specs.Following.{added}

-- bytes are those that the last turn of an order adds to its recording
pub record IsLastTurn (job : Job) (order bytes : List ℕ) : Type 0 where
  pub earlier : List ℕ
  pub thread : ℕ
  pub order_is : order ≡ stepped job.scripts thread earlier
  pub bytes_are : bytes ≡ added job earlier thread

-- nothing is kept of the recording but the lines of the turn that was begun last, or before any
-- turn what stands before them
abbrev pub KeepsTurn : Job → List ℕ → List ℕ → Type 0
KeepsTurn job order kept = (kept ≡ []) ⊎ ((order ≡ []) × (kept ≡ recorded job []))
    ⊎ IsLastTurn job order kept

abbrev pub KeepsOneTurn : CheckState → Type 0
KeepsOneTurn check = KeepsTurn check.job check.order check.kept
