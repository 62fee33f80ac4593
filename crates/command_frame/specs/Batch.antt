-- A taker has taken a front of bytes where that front is so many whole short lines, each with its
-- line feed, none has a fault after those before it, what they give stands behind what was given,
-- and it has taken them behind all that it had taken. It takes them one by one.
use Rattle.std.specs.Prelude.{◌≡◌, ℕ, ◌+◌, ◌<◌, ◌≤◌, List, [], ◌∷◌, ◌++◌, length, take, drop, All, Option, Some, None}
use Rattle.hp_outside.specs.LineReaderState.{LineReaderState}
use Rattle.hp_outside.specs.WholeLines.{IsLineText, text_of_lines}
use Rattle.command_frame.specs.Report.{Report, gains_from}

-- no line has a fault after the lines before it
abbrev pub AreGood : Report → List (List ℕ) → List (List ℕ) → Type 0
AreGood report earlier [] = Unit {0}
AreGood report earlier (line ∷ lines) =
    (report.line_fault earlier line ≡ None) × AreGood report (earlier ++ line ∷ []) lines

-- it has fewer than 64 bytes
abbrev pub IsShortLine : List ℕ → Type 0
IsShortLine line = length line < 64

-- the first so many of these bytes are so many whole lines. They were taken behind all lines that
-- were taken before, and what they give to standard output stands behind what stood there
pub record HasGivenFront (report : Report) (old new : List (List ℕ) → Type 0) (ready : List ℕ)
    (bytes number : ℕ) (before after : List ℕ) : Type 0 where
  pub lines : List (List ℕ)
  pub texts : All IsLineText lines
  pub short : All IsShortLine lines
  pub text : take bytes ready ≡ text_of_lines lines
  pub count : length lines ≡ number
  pub good : (earlier : List (List ℕ)) → old earlier → AreGood report earlier lines
  pub gained : (earlier : List (List ℕ)) → old earlier
      → after ≡ before ++ gains_from report earlier lines
  pub taken : (earlier : List (List ℕ)) → old earlier → new (earlier ++ lines)

-- the first line of these bytes has so many bytes with its line feed. It was taken behind all lines
-- that were taken before, without a fault, and what it gives to standard output stands behind what
-- stood there
pub record HasGivenLine (report : Report) (old new : List (List ℕ) → Type 0) (ready : List ℕ)
    (bytes : ℕ) (before after : List ℕ) : Type 0 where
  pub line : List ℕ
  pub one_line : IsLineText line
  pub short : IsShortLine line
  pub rest : List ℕ
  pub split : ready ≡ line ++ (10 ∷ rest)
  pub size : bytes ≡ length line + 1
  pub no_fault : (earlier : List (List ℕ)) → old earlier → report.line_fault earlier line ≡ None
  pub gained : (earlier : List (List ℕ)) → old earlier
      → after ≡ before ++ report.gains earlier line
  pub taken : (earlier : List (List ℕ)) → old earlier → new (earlier ++ line ∷ [])

-- no line was taken, and the output is as it was
pub record HasGivenNone (old new : List (List ℕ) → Type 0) (before after : List ℕ) : Type 0 where
  pub kept : (lines : List (List ℕ)) → old lines → new lines
  pub same : after ≡ before

-- an answer of so many bytes says that the first line of these bytes was taken, and no answer that none was
abbrev pub TakesFirst : Report → (List (List ℕ) → Type 0) → (List (List ℕ) → Type 0) → List ℕ
    → List ℕ → List ℕ → Option ℕ → Type 0
TakesFirst report old new ready before after (Some bytes) =
    HasGivenLine report old new ready bytes before after
TakesFirst report old new ready before after None = HasGivenNone old new before after

-- a front of the bytes that a reader of lines keeps was taken and passed
pub record HasTakenKept (report : Report) (old new : List (List ℕ) → Type 0)
    (reader next : LineReaderState) (before after : List ℕ) : Type 0 where
  pub bytes : ℕ
  pub lines : ℕ
  pub front : HasGivenFront report old new reader.kept bytes lines before after
  pub held : bytes ≤ length reader.kept
  pub within : reader.passed + bytes ≤ reader.input
  pub short : 0 < bytes → 64 ≤ reader.line_limit
  pub kept : next.kept ≡ drop bytes reader.kept
  pub passed : next.passed ≡ reader.passed + bytes
  pub number : next.number ≡ reader.number + lines
  pub line_ended : next.line_ended ≡ reader.line_ended
