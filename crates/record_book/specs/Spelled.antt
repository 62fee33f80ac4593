-- The order that bytes spell has an entry for each line that begins with `+` or `-`: the number of
-- the nearest line before it that is `# thread` and a number, and 0 where there is none. Lines are
-- quiet where they are neither.
use Rattle.std.specs.Prelude.{◌≡◌, ℕ, Bool, false, ◌==◌, ◌||◌, if◌then◌else◌, List, [], ◌∷◌, codes, Option, None, Some}
use Rattle.std.specs.Prelude.{unwrap_or}
use Rattle.std.specs.List.{AllByRecursion}
use Rattle.hp_num.specs.ParsedDec.{parsed_dec}
use Rattle.hp_outside.specs.Lines.{lines_of}
use Rattle.hp_outside.specs.WholeLines.{IsLineText, text_of_lines}

-- what stands behind a front of a text, where the text has that front
abbrev pub behind : List ℕ → List ℕ → Option (List ℕ)
behind [] text = Some text
behind (b ∷ front) [] = None
behind (b ∷ front) (c ∷ text) = if b == c then behind front text else None

-- the number that digits write
abbrev pub number_of : Option (List ℕ) → Option ℕ
number_of None = None
number_of (Some digits) = parsed_dec digits

-- the thread that a line names: it is `# thread ` and a number in decimal digits
unfoldable pub named : List ℕ → Option ℕ
named line = number_of (behind (codes "# thread ") line)

-- whether the line is an event: it begins with `+` or `-`, which are the bytes 43 and 45
abbrev pub is_event : List ℕ → Bool
is_event [] = false
is_event (b ∷ rest) = b == 43 || b == 45

-- what lines spell behind a line that names a thread: an entry of the thread for each event, up to the next such line
abbrev pub spelled_by : ℕ → List (List ℕ) → List ℕ
spelled_by thread [] = []
spelled_by thread (line ∷ lines) =
    if is_event line then thread ∷ spelled_by thread lines
    else spelled_by (unwrap_or (named line) thread) lines

-- the order that bytes spell. An event before any line that names a thread counts as one of thread 0
abbrev pub spelled : List ℕ → List ℕ
spelled bytes = spelled_by 0 (lines_of bytes)

-- a line that spells nothing and names no thread
pub record IsQuiet (line : List ℕ) : Type 0 where
  pub text : IsLineText line
  pub no_event : is_event line ≡ false
  pub no_thread : named line ≡ None

-- bytes that are whole lines, each of which spells nothing and names no thread
abbrev pub AreQuiet : List ℕ → Type 0
AreQuiet bytes = (lines : List (List ℕ)) × AllByRecursion IsQuiet lines
    × (bytes ≡ text_of_lines lines)
