-- Texts of a trace as they stand in a profile, whose texts are UTF-8. A text of a profile is the
-- trace's where that is UTF-8, and else has `?` for each byte that isn't ASCII; the command has no
-- blanks at its begin, and is `(none)` where nothing is left.
use Rattle.std.specs.Prelude.{ℕ, ◌==◌, nat_lt, if◌then◌else◌, List, [], ◌∷◌, map, codes, Option, Some, None}
use Rattle.std.specs.Str.{is_utf8}

-- `?` in place of a byte that isn't ASCII
abbrev pub ascii_byte : ℕ → ℕ
ascii_byte b = if nat_lt b 128 then b else 63

-- a text that is UTF-8 as it is, and any other with `?` for each byte that isn't ASCII
unfoldable pub utf8_text : List ℕ → List ℕ
utf8_text text = if is_utf8 text then text else map ascii_byte text

-- the text without the blanks that it begins with
abbrev pub without_blanks : List ℕ → List ℕ
without_blanks [] = []
without_blanks (b ∷ bs) = if b == 32 then without_blanks bs else b ∷ bs

-- the text of a command, of which something must be left
abbrev pub or_none : List ℕ → List ℕ
or_none [] = codes "(none)"
or_none (b ∷ bs) = utf8_text (b ∷ bs)

-- the command of a trace, where it names one
unfoldable pub command_text : Option (List ℕ) → List ℕ
command_text None = codes "(none)"
command_text (Some text) = or_none (without_blanks text)
