-- The description of a profile, from the lines that describe it, for private clauses.
use Rattle.std.specs.Prelude.{◌≡◌, ℕ, List, [], ◌∷◌, ◌++◌, codes, Some}
use Rattle.massif_file.specs.Fields.{header_value}

-- descriptions that are not empty are joined by one blank
abbrev pub joined : List ℕ → List ℕ → List ℕ
joined desc [] = desc
joined [] (b ∷ bs) = b ∷ bs
joined (d ∷ ds) (b ∷ bs) = (d ∷ ds) ++ (32 ∷ b ∷ bs)

-- the lines are descriptions, which make this description together: their values, without the empty
-- ones, joined by one blank
abbrev pub Describe : List ℕ → List (List ℕ) → List ℕ → Type 0
Describe before [] desc = before ≡ desc
Describe before (line ∷ lines) desc = (value : List ℕ)
    × (header_value (codes "desc:") line ≡ Some value) × Describe (joined before value) lines desc
