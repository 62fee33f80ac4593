-- Blanks and other bytes in a line. A blank is the byte 0x20. A line that is empty, holds only
-- blanks or begins with `#` says nothing.
use Rattle.std.specs.Prelude.{ℕ, zero, suc, Bool, false, ◌==◌, ◌||◌, if◌then◌else◌, List, [], ◌∷◌}
use Rattle.std.specs.List.{list_all}

abbrev pub is_blank : ℕ → Bool
is_blank b = b == 32

-- the text without the blanks that it begins with
abbrev pub without_blanks : List ℕ → List ℕ
without_blanks [] = []
without_blanks (b ∷ bs) = if is_blank b then without_blanks bs else b ∷ bs

-- the text up to the first such byte
abbrev pub before_byte : ℕ → List ℕ → List ℕ
before_byte byte [] = []
before_byte byte (b ∷ bs) = if b == byte then [] else b ∷ before_byte byte bs

-- the text from the first such byte on
abbrev pub from_byte : ℕ → List ℕ → List ℕ
from_byte byte [] = []
from_byte byte (b ∷ bs) = if b == byte then b ∷ bs else from_byte byte bs

-- the text begins with '#'
abbrev pub is_comment : List ℕ → Bool
is_comment [] = false
is_comment (b ∷ bs) = b == 35

-- a line that says nothing: it is empty, holds only blanks, or begins with '#'
abbrev pub is_skipped : List ℕ → Bool
is_skipped line = is_comment line || list_all is_blank line

-- so many blanks
abbrev pub blanks : ℕ → List ℕ
blanks zero = []
blanks (suc n) = 32 ∷ blanks n
