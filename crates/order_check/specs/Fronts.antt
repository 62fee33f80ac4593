-- Lines are a front where the lines of the recording of some order under the scripts begin with
-- them. Bytes are a recording where they are that of the order that they spell, and that is an
-- interleaving. Bytes that are none break off behind so many lines where these are a front, and
-- none is one line longer.
use Rattle.std.specs.Prelude.{◌≡◌, ◌+◌, ◌<◌, ◌≤◌, ℕ, List, ◌++◌, length, take}
use Rattle.hp_outside.specs.Lines.{lines_of}
use Rattle.record_scripts.specs.Job.{Job}
use Rattle.record_book.specs.Orders.{IsInterleaving, IsUnder}
use Rattle.record_book.specs.RecordedTrace.{recorded}
use Rattle.record_book.specs.Spelled.{spelled}

-- the lines of the recording of an order begin with these
abbrev pub Begins : Job → List ℕ → List (List ℕ) → Type 0
Begins job order lines = (more : List (List ℕ)) × (lines_of (recorded job order) ≡ lines ++ more)

-- the lines of the recording of some order under the scripts do
abbrev pub IsFront : Job → List (List ℕ) → Type 0
IsFront job lines = (order : List ℕ) × IsUnder job.scripts order × Begins job order lines

-- bytes that are the recording of the order that they spell, in which all turns are taken
pub record IsRecording (job : Job) (bytes : List ℕ) : Type 0 where
  pub trace : bytes ≡ recorded job (spelled bytes)
  pub all : IsInterleaving job.scripts (spelled bytes)

-- some recording begins with the first so many lines of bytes that are none, and none with one line
-- more, where there is one
pub record BreaksOff (job : Job) (bytes : List ℕ) (count : ℕ) : Type 0 where
  pub within : count ≤ length (lines_of bytes)
  pub front : IsFront job (take count (lines_of bytes))
  pub no_front : count < length (lines_of bytes)
      → ¬ (IsFront job (take (count + 1) (lines_of bytes)))
  pub no_recording : ¬ (IsRecording job bytes)
