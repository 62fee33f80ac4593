-- Lists in which each element stands once, in the order of first appearance.
use Rattle.std.specs.Prelude.{ℕ, Bool, List, [], ◌∷◌, ◌++◌, if◌then◌else◌, fold, length, nat_lt, Option, Some, None}
use Rattle.std.specs.List.{list_any}
use Rattle.ht_trace.specs.declared.error.LineError.{LineError}
use Rattle.ht_trace.specs.declared.error.LineError.TheVariants.{TooMany}
use Rattle.ht_trace.specs.LineFault.{most_entries}

-- the list with one more element at its end, where it has none that is the same
abbrev pub with_new : {X : Type 0} → (X → X → Bool) → List X → X → List X
with_new same xs x = if list_any (same x) xs then xs else xs ++ x ∷ []

-- the same for several elements in turn
abbrev pub with_all : {X : Type 0} → (X → X → Bool) → List X → List X → List X
with_all same xs more = fold (with_new same) xs more

-- the fault of a list that would grow to so many elements, where it may have this many
abbrev pub over_fault : ℕ → ℕ → Option LineError
over_fault most count = if nat_lt most count then Some TooMany else None

-- the fault of a table with one more element, or with several
abbrev pub new_fault : {X : Type 0} → (X → X → Bool) → List X → X → Option LineError
new_fault same xs x = over_fault most_entries (length (with_new same xs x))

abbrev pub all_fault : {X : Type 0} → (X → X → Bool) → List X → List X → Option LineError
all_fault same xs more = over_fault most_entries (length (with_all same xs more))
