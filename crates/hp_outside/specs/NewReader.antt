-- A reader of lines at the front of a file.
use Rattle.std.specs.Prelude.{◌≡◌, true, false, [], None}
use Rattle.hp_outside.specs.LineReaderState.{LineReaderState}

-- nothing of it was taken, given or refused
pub record IsNewReader (reader : LineReaderState) : Type 0 where
  pub passed : reader.passed ≡ 0
  pub kept : reader.kept ≡ []
  pub ended : reader.ended ≡ false
  pub number : reader.number ≡ 0
  pub given : reader.given ≡ 0
  pub line_ended : reader.line_ended ≡ true
  pub fault : reader.fault ≡ None

-- the same but for the end of a line, which no line has yet
abbrev pub IsAtStart : LineReaderState → Type 0
IsAtStart reader = (reader.kept ≡ []) × (reader.passed ≡ 0) × (reader.ended ≡ false)
    × (reader.number ≡ 0) × (reader.given ≡ 0) × (reader.fault ≡ None)
