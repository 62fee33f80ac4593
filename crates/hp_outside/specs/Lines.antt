-- The lines of bytes are the pieces between line feeds; a last piece that isn't empty is a line
-- too.
use Rattle.std.specs.Prelude.{◌≡◌, ◌<◌, ℕ, List, [], ◌∷◌, length, Bool, ◌==◌, if◌then◌else◌}
use Rattle.std.specs.List.{before_first, after_first, position_or_len}

-- a line feed ends a line
abbrev pub is_line_feed : ℕ → Bool
is_line_feed byte = byte == 10

-- a byte before the lines of the bytes after it
abbrev pub put_first : ℕ → List (List ℕ) → List (List ℕ)
put_first byte [] = (byte ∷ []) ∷ []
put_first byte (line ∷ lines) = (byte ∷ line) ∷ lines

-- the lines of bytes: the pieces between line feeds, of which a last one that is empty is none
abbrev pub lines_of : List ℕ → List (List ℕ)
lines_of [] = []
lines_of (byte ∷ bytes) = if is_line_feed byte then [] ∷ lines_of bytes
    else put_first byte (lines_of bytes)

-- the first line of bytes, where there is one
abbrev pub first_line : List ℕ → List ℕ
first_line bytes = before_first is_line_feed bytes

-- what stands behind the first line and its line feed
abbrev pub after_line : List ℕ → List ℕ
after_line bytes = after_first is_line_feed bytes

-- no line feed stands among the bytes
abbrev pub HasNoFeed : List ℕ → Type 0
HasNoFeed bytes = position_or_len is_line_feed bytes ≡ length bytes

-- the first line feed of the bytes stands at the place
abbrev pub IsFirstFeed : List ℕ → ℕ → Type 0
IsFirstFeed bytes end = (end < length bytes) × (position_or_len is_line_feed bytes ≡ end)
