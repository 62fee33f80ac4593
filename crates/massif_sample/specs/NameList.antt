-- The names of a list are its pieces between semicolons, of which empty ones don't count.
use Rattle.std.specs.Prelude.{ℕ, Bool, ◌==◌, List, length, nat_lt, filter}
use Rattle.std.specs.List.{slice_split}

-- a semicolon is the byte 0x3B
abbrev pub is_semicolon : ℕ → Bool
is_semicolon b = b == 59

-- the pieces that aren't empty
abbrev pub with_text : List (List ℕ) → List (List ℕ)
with_text pieces = filter (λ piece. nat_lt 0 (length piece)) pieces

-- the names that a list has: its pieces between semicolons, of which empty ones don't count
unfoldable pub names_in : List ℕ → List (List ℕ)
names_in list = with_text (slice_split is_semicolon list)
