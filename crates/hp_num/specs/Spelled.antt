-- Numbers as the fields of a line stand in hexadecimal, each behind a blank.
use Rattle.std.specs.Prelude.{ℕ, List, [], ◌∷◌, ◌++◌}
use Rattle.hp_num.specs.Hexadecimal.{hexadecimal}

-- each number after a blank
abbrev pub spelled : List ℕ → List ℕ
spelled [] = []
spelled (n ∷ ns) = 32 ∷ (hexadecimal n ++ spelled ns)
