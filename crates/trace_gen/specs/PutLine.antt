-- Lines as they are written. A line is put behind what stood there where its bytes and its line
-- feed are, no line feed stands in it, and it is short.
use Rattle.std.specs.Prelude.{◌≡◌, ℕ, ◌≤◌, List, [], ◌∷◌, ◌++◌, length}
use Rattle.hp_outside.specs.WholeLines.{IsLineText}

-- a line, of at most 40 bytes, stands with its line feed behind what stood there
pub record PutsLine (before now line : List ℕ) : Type 0 where
  pub text : now ≡ before ++ (line ++ (10 ∷ []))
  pub one_line : IsLineText line
  pub short : length line ≤ 40
