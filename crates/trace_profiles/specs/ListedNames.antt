-- The names of a list, each once, for private clauses.
use Rattle.std.specs.Prelude.{◌≡◌, ℕ, ◌↔◌, Bool, Contains, IsTrue, List, [], ◌∷◌, ◌++◌}
use Rattle.std.specs.Str.{bytes_eq}
use Rattle.intern_tables.specs.WithoutRepeats.{without_repeats}
use Rattle.massif_sample.specs.NameList.{names_in, with_text}

-- the names of a list
abbrev pub listed : List ℕ → List (List ℕ)
listed list = without_repeats bytes_eq (names_in list)

-- the names of pieces that came, and of one piece more
abbrev pub AddsPiece : List (List ℕ) → List (List ℕ) → List ℕ → Type 0
AddsPiece old new piece = (came : List (List ℕ)) → old ≡ without_repeats bytes_eq (with_text came)
    → new ≡ without_repeats bytes_eq (with_text (came ++ piece ∷ []))

-- the answer says whether the name is one of a list's
abbrev pub SaysNamed : List (List ℕ) → List ℕ → Bool → Type 0
SaysNamed names name answer = (list : List ℕ) → names ≡ listed list
    → IsTrue answer ↔ Contains (names_in list) name
