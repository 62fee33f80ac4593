-- Lists of places that stand in one vector, for private clauses.
use Rattle.std.specs.Prelude.{ℕ, ◌-◌, ◌≤◌, List, All, drop, length, map, take}
use Rattle.dhat_trace.specs.declared.known_places.PlaceRange.{PlaceRange}

-- what stands in a range
abbrev pub places_at : List ℕ → PlaceRange → List ℕ
places_at places range = take (range.end - range.start) (drop range.start places)

-- what stands in each range
abbrev pub lists_of : List ℕ → List PlaceRange → List (List ℕ)
lists_of places = map (places_at places)

-- a range in which nothing stands
abbrev pub empty_range : PlaceRange
empty_range = record { start = 0; end = 0 }

-- the ranges lie within the vector
abbrev pub IsRange : List ℕ → PlaceRange → Type 0
IsRange places range = (range.start ≤ range.end) × (range.end ≤ length places)

abbrev pub AreRanges : List ℕ → List PlaceRange → Type 0
AreRanges places ranges = All (IsRange places) ranges
