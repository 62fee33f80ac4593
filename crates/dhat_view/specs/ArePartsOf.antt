-- What is read of a profile for its view: the options, what stands before the tree, for each point
-- the shown texts of its frames and what it costs, and the sum of that.
use Rattle.std.specs.Prelude.{◌≡◌, ◌≤◌, ◌^◌, sum, ◌++◌, List, ℕ}
use Rattle.dhat_json.specs.declared.profile.Dhat.{Dhat}
use Rattle.dhat_view.specs.declared.options.ViewOptions.{ViewOptions}
use Rattle.dhat_view.specs.declared.parts.ViewParts.{ViewParts}
use Rattle.dhat_view.specs.AreViewSums.{GainsView}
use Rattle.dhat_view.specs.PointCosts.{point_costs}
use Rattle.dhat_view.specs.PointFronts.{point_fronts}
use Rattle.dhat_view.specs.ViewText.{head_text, view_by}

-- the parts are those of the view of a profile with these options, whose points cost at most 2^62
pub record ArePartsOf (options : ViewOptions) (dhat : Dhat) (parts : ViewParts) : Type 0 where
  pub options_are : parts.options ≡ options
  pub total : parts.total ≡ sum (point_costs options.key dhat)
  pub within : parts.total ≤ 2 ^ 62
  pub head : parts.head.items ≡ head_text options.key dhat parts.total
  pub fronts : parts.fronts ≡ point_fronts dhat
  pub costs : parts.costs.items ≡ point_costs options.key dhat

-- they are those of the view of some profile
abbrev pub AreParts : ViewParts → Type 0
AreParts parts = (options : ViewOptions) × (dhat : Dhat) × ArePartsOf options dhat parts

-- the view of any profile of which these are the parts came to the bytes, with the sums of its points
abbrev pub GainsViewOf : ViewParts → List ℕ → List ℕ → Type 0
GainsViewOf parts old new = (options : ViewOptions) (dhat : Dhat) → ArePartsOf options dhat parts
    → new ≡ old ++ view_by options dhat

abbrev pub GainsSumsOf : ViewParts → List ℕ → List ℕ → Type 0
GainsSumsOf parts old new = (options : ViewOptions) (dhat : Dhat) → ArePartsOf options dhat parts
    → GainsView options dhat old new
