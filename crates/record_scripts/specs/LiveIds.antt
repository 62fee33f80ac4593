-- An ID is live where its place in a table says so, or where it is among the others. One that is put
-- in or taken out is the only one that changes.
use Rattle.std.specs.Prelude.{ℕ, Bool, false, if◌then◌else◌, List, length, get_or, nat_eq, nat_lt, ◌≡◌, ◌==◌}
use Rattle.std.specs.HashSet.{contains}
use Rattle.record_scripts.specs.declared.live_ids.LiveIds.{LiveIds}

-- one that has a place in a table, or else one of the others
abbrev pub is_held : List Bool → (ℕ → Bool) → ℕ → Bool
is_held low high id = if nat_lt id (length low) then get_or low id false else high id

abbrev pub has_id : LiveIds → ℕ → Bool
has_id ids id = is_held ids.low.items (contains nat_eq ids.high) id

-- the same IDs are live
abbrev pub HasSameIds : LiveIds → LiveIds → Type 0
HasSameIds old new = (q : ℕ) → has_id new q ≡ has_id old q

-- an ID is now live, or it isn't
abbrev pub SetsId : LiveIds → LiveIds → ℕ → Bool → Type 0
SetsId old new id live = (q : ℕ) → has_id new q ≡ (if id == q then live else has_id old q)
