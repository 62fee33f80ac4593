-- What contracts see of a reader of lines: its limits, how many bytes it passed, those that it
-- keeps, and its fault.
use Rattle.std.specs.Prelude.{◌≡◌, ℕ, ◌-◌, ◌≤◌, List, [], Bool, true, false, Option, None, length, min}
use Rattle.hp_outside.specs.declared.span.Span.{Span}
use Rattle.hp_outside.specs.declared.span.LineFault.{LineFault}

-- a reader of lines: its limits, and how far it is in the current file
pub record LineReaderState : Type 0 where
  -- the most bytes of a file
  pub input : ℕ
  -- the most bytes of a line
  pub line_limit : ℕ
  -- how many bytes of the file stand before those that are kept
  pub passed : ℕ
  -- the bytes that were taken from the store and not yet given
  pub kept : List ℕ
  -- whether the end of the file was seen
  pub ended : Bool
  -- how many lines were given
  pub number : ℕ
  -- the sum, over the lines given, of each one's length plus 1
  pub given : ℕ
  -- whether the line given last ended with its line feed; true where none was given
  pub line_ended : Bool
  -- the fault that was answered, if one was
  pub fault : Option LineFault
  -- the line that was given last, and where it stands
  pub line : List ℕ
  pub span : Span

-- how many of the bytes that are kept stand within the limit of the file
abbrev pub ready_count : LineReaderState → ℕ
ready_count reader = min (length reader.kept) (reader.input - reader.passed)

-- so many bytes are ready where lines may be that short and no fault was answered
abbrev pub IsReadyCount : LineReaderState → ℕ → Type 0
IsReadyCount reader count = 16 ≤ reader.line_limit → reader.fault ≡ None
    → count ≡ ready_count reader

-- the reader before the first byte of a file
abbrev pub at_start : LineReaderState → LineReaderState
at_start reader = record reader {
  passed = 0;
  kept = [];
  ended = false;
  number = 0;
  given = 0;
  line_ended = true;
  fault = None;
}
