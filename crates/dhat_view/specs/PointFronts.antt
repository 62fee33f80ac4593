-- The frames of a profile's points as lists of texts. The list of a point is the shown texts of its
-- frames, from the innermost outwards.
use Rattle.std.specs.Prelude.{ℕ, List, [], map, slice_index_or}
use Rattle.dhat_json.specs.declared.profile.Point.{Point}
use Rattle.dhat_json.specs.declared.profile.Dhat.{Dhat}
use Rattle.dhat_json.specs.Shown.{shown}

-- the texts of these frames in a table
abbrev pub texts_at : List (List ℕ) → List ℕ → List (List ℕ)
texts_at table frames = map (λ frame. slice_index_or table frame []) frames

-- for each point the texts of its frames, from the innermost outwards
abbrev pub lists_in : List (List ℕ) → List Point → List (List (List ℕ))
lists_in table points = map (λ point. texts_at table point.fs) points

-- the lists of a profile, whose texts are shown
unfoldable pub point_fronts : Dhat → List (List (List ℕ))
point_fronts dhat = lists_in (map shown dhat.ftbl) dhat.pps
