-- What the writer appends, part by part, for private clauses.
use Rattle.std.specs.Prelude.{◌≡◌, ℕ, List, [], ◌∷◌, ◌++◌, Vec, decimal, take, vec_len}
use Rattle.massif_file.specs.Blanks.{blanks}
use Rattle.massif_file.specs.MassifText.{node_text, separator}

-- the vector still begins with what it held
abbrev pub KeepsFront : {A : Type 0} → Vec ℕ A → Vec ℕ A → Type 0
KeepsFront old new = take (vec_len old) new.items ≡ old.items

-- a separator, and a line of the key and the number
abbrev pub separated : List ℕ → ℕ → List (List ℕ)
separated key n = separator ∷ (key ++ decimal n) ∷ []

-- what stands before the label of a line with so many children and bytes
abbrev pub node_head : ℕ → ℕ → List ℕ
node_head children bytes = node_text (record { children = children; bytes = bytes; label = [] })

-- the line feed of the line before, and the text behind the blanks of its level
abbrev pub at_level : ℕ → List ℕ → List ℕ
at_level level text = 10 ∷ (blanks level ++ text)
