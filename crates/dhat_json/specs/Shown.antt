-- The shown form of a text: `?` for each byte below a blank and for a blank that begins it, and `?`
-- alone for an empty text. So nothing in it ends a line, and it is never empty.
use Rattle.std.specs.Prelude.{ℕ, ◌==◌, nat_lt, if◌then◌else◌, List, [], ◌∷◌, map}

-- `?` in place of a byte below a blank
abbrev pub shown_byte : ℕ → ℕ
shown_byte b = if nat_lt b 32 then 63 else b

-- `?` in place of a blank that begins a text too
abbrev pub shown_first : ℕ → ℕ
shown_first b = if b == 32 then 63 else shown_byte b

abbrev pub shown : List ℕ → List ℕ
shown [] = 63 ∷ []
shown (b ∷ bs) = shown_first b ∷ map shown_byte bs
