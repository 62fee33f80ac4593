-- The view of a profile. The view is the command, the number of points, the sum of the figures, an
-- empty line and the tree, to so many frames.
use Rattle.std.specs.Prelude.{ℕ, List, ◌++◌, codes, decimal, length, sum}
use Rattle.cost_tree.specs.Costed.{Costed, costed}
use Rattle.dhat_json.specs.declared.figure.FigureKey.{FigureKey}
use Rattle.dhat_json.specs.declared.profile.Dhat.{Dhat}
use Rattle.dhat_json.specs.Figure.{figure_key}
use Rattle.dhat_json.specs.KeyName.{key_name}
use Rattle.dhat_json.specs.Shown.{shown}
use Rattle.dhat_view.specs.declared.options.ViewOptions.{ViewOptions}
use Rattle.dhat_view.specs.PointCosts.{point_costs}
use Rattle.dhat_view.specs.PointFronts.{point_fronts}
use Rattle.dhat_view.specs.TreeText.{scale_of, tree_text}

-- the command and the number of points
unfoldable pub points_text : Dhat → List ℕ
points_text dhat = codes "command: "
    ++ (shown dhat.cmd ++ (codes "\npoints: " ++ (decimal (length dhat.pps) ++ codes "\n")))

-- the sum of the figures, and an empty line
unfoldable pub total_text : FigureKey → ℕ → List ℕ
total_text key total = key_name (figure_key key) ++ (codes ": " ++ (decimal total ++ codes "\n\n"))

-- what stands before the tree
unfoldable pub head_text : FigureKey → Dhat → ℕ → List ℕ
head_text key dhat total = points_text dhat ++ total_text key total

-- the points' lists of texts, with their figures as costs
abbrev pub fronts_with_costs : FigureKey → Dhat → List Costed
fronts_with_costs key dhat = costed (point_fronts dhat) (point_costs key dhat)

-- the head, and the tree of the points by their frames: by a figure, with a threshold, and so many frames deep
unfoldable pub view_text : FigureKey → ℕ → ℕ → Dhat → List ℕ
view_text key threshold depth dhat =
    head_text key dhat (sum (point_costs key dhat))
    ++ tree_text depth (scale_of (sum (point_costs key dhat)) threshold)
    (fronts_with_costs key dhat)

-- by options
abbrev pub view_by : ViewOptions → Dhat → List ℕ
view_by options = view_text options.key options.threshold options.depth
