-- The next line of the bytes that are left, or that it is too long or the input is, with what is
-- left after it; a line feed ends it or not.
use Rattle.std.specs.Prelude.{◌≡◌, ◌≢◌, ◌+◌, ◌<◌, ◌≤◌, ℕ, List, [], ◌∷◌, Option, None, Some, Result, Ok, Err, Bool}
use Rattle.std.specs.Prelude.{nat_lt, length}
use Rattle.std.specs.List.{position_or_len}
use Rattle.hp_outside.specs.Lines.{is_line_feed, lines_of, first_line, after_line}
use Rattle.hp_outside.specs.declared.span.Span.{Span}
use Rattle.hp_outside.specs.declared.span.LineFault.{LineFault}
use Rattle.hp_outside.specs.declared.span.LineFault.TheVariants.{ReadFailed, LineTooLong, InputTooLong}

-- more bytes than a line may have stand in the next line, within the bytes that a file may have
abbrev pub IsLineTooLong : ℕ → ℕ → ℕ → List ℕ → Type 0
IsLineTooLong input line passed rest = (line < length (first_line rest))
    × (passed + line + 1 ≤ input)

-- the file has more bytes than it may have, and the next line with its line feed isn't within those
abbrev pub IsInputTooLong : ℕ → ℕ → ℕ → List ℕ → Type 0
IsInputTooLong input line passed rest =
    (input < passed + length rest) × (input ≤ passed + length (first_line rest))
    × ¬ (IsLineTooLong input line passed rest)

-- what the rest of a file before which so many bytes stand gives next, under these limits
abbrev pub NextAnswer : ℕ → ℕ → ℕ → List ℕ → Result (Option Span) LineFault → Type 0
NextAnswer input line passed rest (Ok None) = rest ≡ []
NextAnswer input line passed rest (Ok (Some span)) =
    (rest ≢ []) × ¬ (IsLineTooLong input line passed rest)
    × ¬ (IsInputTooLong input line passed rest)
NextAnswer input line passed rest (Err LineTooLong) = IsLineTooLong input line passed rest
NextAnswer input line passed rest (Err InputTooLong) = IsInputTooLong input line passed rest
NextAnswer input line passed rest (Err ReadFailed) = Unit {0}

-- what is left of the rest of a file, and how much stands before it, when its next line was given
abbrev pub GivesLine : ℕ → List ℕ → ℕ → Option (List ℕ) → List ℕ → Result (Option Span) LineFault
    → Type 0
GivesLine passed rest new_passed new_rest line (Ok (Some span)) =
    (line ≡ first_line rest) × (new_rest ≡ Some (after_line rest))
    × (lines_of rest ≡ line ∷ lines_of (after_line rest))
    × (new_passed + length (after_line rest) ≡ passed + length rest)
GivesLine passed rest new_passed new_rest line (Ok None) = new_rest ≡ Some []
GivesLine passed rest new_passed new_rest line (Err fault) = Unit {0}

-- bytes of a file that show neither its next line nor a fault: they hold no line feed, and are no
-- more than a line and the file may have
abbrev pub IsUndecided : ℕ → ℕ → ℕ → List ℕ → Type 0
IsUndecided input line passed kept =
    (position_or_len is_line_feed kept ≡ length kept) × (length kept ≤ line)
    × (passed + length kept ≤ input)

-- whether a line feed ends the first line of bytes
abbrev pub has_line_feed : List ℕ → Bool
has_line_feed rest = nat_lt (length (first_line rest)) (length rest)

-- a line was given
abbrev pub IsLine : Result (Option Span) LineFault → Type 0
IsLine (Ok None) = ⊥
IsLine (Ok (Some span)) = Unit {0}
IsLine (Err fault) = ⊥
