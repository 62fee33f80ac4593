-- The interval after a cull. The interval is then the least difference between the times of
-- neighbours.
use Rattle.std.specs.Prelude.{ℕ, ◌-◌, min, List, [], ◌∷◌, map, drop, fold}
use Rattle.std.specs.List.{zip}
use Rattle.massif_cull.specs.declared.snapshot.SnapEntry.{SnapEntry}
use Rattle.massif_cull.specs.Entries.{times}

-- each number's difference to the one after it
unfoldable pub differences : List ℕ → List ℕ
differences numbers = map (λ pair. pair.1 - pair.0) (zip numbers (drop 1 numbers))

-- the least number of a list, and 0 of none
unfoldable pub least : List ℕ → ℕ
least [] = 0
least (n ∷ ns) = fold min n ns

-- the least difference between the times of neighbours
unfoldable pub least_interval : List SnapEntry → ℕ
least_interval entries = least (differences (times entries))
