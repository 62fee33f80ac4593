-- A list more begins with that of a caller, or is empty for caller 0; the last list gains elements
-- at its end.
use Rattle.std.specs.Prelude.{◌≡◌, ◌==◌, ℕ, if◌then◌else◌, List, [], ◌∷◌, ◌++◌, slice_index_or}

-- the list of a caller, and none for 0
abbrev pub caller_list : {X : Type 0} → List (List X) → ℕ → List X
caller_list lists caller = if caller == 0 then [] else slice_index_or lists caller []

-- a list more, which begins with that of a caller
abbrev pub HasBegun : {X : Type 0} → List (List X) → ℕ → List (List X) → Type 0
HasBegun old caller new = new ≡ old ++ caller_list old caller ∷ []

-- the last list has these elements at its end too
abbrev pub LastGains : {X : Type 0} → List (List X) → List X → List (List X) → Type 0
LastGains {X} old more new = (earlier : List (List X)) (last : List X)
    → old ≡ earlier ++ last ∷ [] → new ≡ earlier ++ (last ++ more) ∷ []

-- one element
abbrev pub LastGets : {X : Type 0} → List (List X) → X → List (List X) → Type 0
LastGets {X} old x new = LastGains old (x ∷ []) new
