-- What follows a list's own elements: an earlier list, or nothing.
use Rattle.std.specs.Prelude.{ℕ, List, [], Option, slice_index_or}
use Rattle.std.specs.Option.{option_map_or}

abbrev pub following : {X : Type 0} → List (List X) → Option ℕ → List X
following lists next = option_map_or (λ list. slice_index_or lists list []) next []
