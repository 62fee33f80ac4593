-- What stays of names and of their numbers once a name is interned.
use Rattle.std.specs.Prelude.{◌≡◌, ℕ, ◌≤◌, List, [], ◌∷◌, ◌++◌, length, Some}
use Rattle.std.specs.Str.{bytes_eq}
use Rattle.intern_tables.specs.Numbers.{name_at, number_of}
use Rattle.intern_tables.specs.WithoutRepeats.{without_repeats}

-- the names with one more at their end
abbrev pub with_name : List (List ℕ) → List ℕ → List (List ℕ)
with_name names name = names ++ name ∷ []

-- each number has the name that it had
abbrev pub KeepsNames : List (List ℕ) → List (List ℕ) → Type 0
KeepsNames old new = (n : ℕ) → n ≤ length old → name_at new n ≡ name_at old n

-- each name has the number that it had
abbrev pub KeepsNumbers : List (List ℕ) → List (List ℕ) → Type 0
KeepsNumbers old new = (name : List ℕ) (n : ℕ) → number_of old name ≡ Some n
    → number_of new name ≡ Some n

-- where the old names are those that came, each once, the new ones are these and one more
abbrev pub AreFirstOfMore : List (List ℕ) → List (List ℕ) → List ℕ → Type 0
AreFirstOfMore old new name = (came : List (List ℕ)) → old ≡ without_repeats bytes_eq came
    → new ≡ without_repeats bytes_eq (with_name came name)
