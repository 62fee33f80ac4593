-- The patterns of suppressions. The pattern of a text is what follows `leak:` where it begins with
-- it, else the whole text; a text that begins with `#` has none, and no pattern is empty.
use Rattle.std.specs.Prelude.{ℕ, ◌==◌, ◌-◌, ◌||◌, if◌then◌else◌, List, length, drop, codes, nat_eq, Option, Some, None}
use Rattle.std.specs.Prelude.{slice_get}
use Rattle.std.specs.List.{starts_with, filter_map}

-- what follows `leak:` where the text begins with it, else the text
abbrev pub after_leak : List ℕ → List ℕ
after_leak text = if starts_with nat_eq text (codes "leak:") then drop 5 text else text

-- the pattern of a text: none where that is empty or the text begins with `#`
abbrev pub pattern_of : List ℕ → Option (List ℕ)
pattern_of text =
    if starts_with nat_eq text (codes "#") || length (after_leak text) == 0 then None
    else Some (after_leak text)

-- the patterns of texts
abbrev pub patterns_of : List (List ℕ) → List (List ℕ)
patterns_of texts = filter_map pattern_of texts

-- the pattern with the number n; numbers begin at 1
abbrev pub pattern_at : List (List ℕ) → ℕ → Option (List ℕ)
pattern_at patterns n = if n == 0 then None else slice_get patterns (n - 1)
