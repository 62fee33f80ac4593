-- What following lines says of recordings: they are followed exactly where they are a front, and to
-- the end exactly where they are a recording.
use Rattle.std.specs.Prelude.{◌≡◌, ◌≢◌, ◌↔◌, ℕ, Bool, true, false, List, Some, All, length, take}
use Rattle.hp_outside.specs.Lines.{lines_of}
use Rattle.hp_outside.specs.WholeLines.{IsLineText, text_of_lines}
use Rattle.record_scripts.specs.Job.{Job}
use Rattle.record_book.specs.Spelled.{spelled}
use Rattle.order_check.specs.FewOrders.{BeginsAsSpelled}
use Rattle.order_check.specs.Following.{is_front, whole_events}
use Rattle.order_check.specs.Fronts.{IsFront, IsRecording}

-- lines are followed to their end exactly where they are a front
abbrev pub TellsFront : Job → List (List ℕ) → Type 0
TellsFront job lines = (is_front job lines ≡ true) ↔ IsFront job lines

-- the laws of one job
pub record FrontLaws (job : Job) : Type 0 where
  -- any lines, and the first ones of a file
  pub fronts : (lines : List (List ℕ)) → All IsLineText lines → TellsFront job lines
  pub first : (bytes : List ℕ) (count : ℕ) → TellsFront job (take count (lines_of bytes))
  -- it is enough to look at few orders
  pub few : (lines : List (List ℕ)) → All IsLineText lines
      → IsFront job lines ↔ BeginsAsSpelled job lines
  -- the lines of a file, with or without a line feed behind the last one: they are all of a
  -- recording exactly where they are so followed
  pub whole : (bytes : List ℕ) (ended : Bool) (events : ℕ)
      → (ended ≡ true → bytes ≡ text_of_lines (lines_of bytes))
      → whole_events job (lines_of bytes) ended ≡ Some events
      → IsRecording job bytes × (events ≡ length (spelled bytes))
  pub only : (bytes : List ℕ) (ended : Bool)
      → (ended ≡ false → bytes ≢ text_of_lines (lines_of bytes)) → IsRecording job bytes
      → whole_events job (lines_of bytes) ended ≡ Some (length (spelled bytes))
