-- The numbers of the names in a list. The number of a name is the place of its first appearance
-- among the distinct ones, from 1.
use Rattle.std.specs.Prelude.{ℕ, ◌==◌, ◌+◌, ◌-◌, List, Option, None, if◌then◌else◌, slice_get, position}
use Rattle.std.specs.Option.{option_map}
use Rattle.std.specs.Str.{bytes_eq}

-- the name with the number n; numbers begin at 1
abbrev pub name_at : List (List ℕ) → ℕ → Option (List ℕ)
name_at names n = if n == 0 then None else slice_get names (n - 1)

-- the number of a name, which is that of its first place in the list; none where it isn't there
unfoldable pub number_of : List (List ℕ) → List ℕ → Option ℕ
number_of names bytes = option_map (λ place. place + 1) (position (bytes_eq bytes) names)
