-- What the points of a profile cost.
use Rattle.std.specs.Prelude.{ℕ, List, map, unwrap_or}
use Rattle.dhat_json.specs.declared.figure.FigureKey.{FigureKey}
use Rattle.dhat_json.specs.declared.profile.Point.{Point}
use Rattle.dhat_json.specs.declared.profile.Dhat.{Dhat}
use Rattle.dhat_json.specs.Figure.{figure_of}

-- the point's figure of the key; 0 where it has none
abbrev pub point_cost : FigureKey → Point → ℕ
point_cost key point = unwrap_or (figure_of key point) 0

-- the costs of all points
unfoldable pub point_costs : FigureKey → Dhat → List ℕ
point_costs key dhat = map (point_cost key) dhat.pps
