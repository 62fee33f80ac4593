-- What a DHAT profile has to fold: its points by their lists of texts, with the figure of a key. An
-- item is a list of texts and a number: of a profile one for each point, its list and its figure of
-- the key.
use Rattle.std.specs.Prelude.{List}
use Rattle.cost_tree.specs.Costed.{Costed, costed}
use Rattle.dhat_json.specs.declared.figure.FigureKey.{FigureKey}
use Rattle.dhat_json.specs.declared.profile.Dhat.{Dhat}
use Rattle.dhat_view.specs.PointCosts.{point_costs}
use Rattle.dhat_view.specs.PointFronts.{point_fronts}

-- an item for each point: its shown texts from the innermost frame on, and its figure
abbrev pub point_items : FigureKey → Dhat → List Costed
point_items key dhat = costed (point_fronts dhat) (point_costs key dhat)
