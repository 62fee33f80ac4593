-- A profile has no view where its points have no figures of the key, or where these sum to more
-- than 2^62.
use Rattle.std.specs.Prelude.{◌≡◌, ◌≢◌, ◌^◌, nat_lt, if◌then◌else◌, Option, Some, None, Result, Err, sum}
use Rattle.dhat_json.specs.declared.figure.FigureKey.{FigureKey}
use Rattle.dhat_json.specs.declared.profile.Dhat.{Dhat}
use Rattle.dhat_json.specs.Figure.{has_figures}
use Rattle.dhat_view.specs.declared.fault.ViewFault.{ViewFault}
use Rattle.dhat_view.specs.declared.fault.ViewFault.TheVariants.{NoFigures, NoMemory, TooLarge}
use Rattle.dhat_view.specs.PointCosts.{point_costs}

-- the fault is what a profile has, unless memory was wanting
abbrev pub IsFaultOf : Option ViewFault → ViewFault → Type 0
IsFaultOf defined fault = fault ≢ NoMemory → defined ≡ Some fault

-- the result is the profile's fault, if it has one
abbrev pub IsRefused : {A : Type 0} → Option ViewFault → Result A ViewFault → Type 0
IsRefused defined result = (fault : ViewFault) → defined ≡ Some fault → result ≡ Err fault

-- its points have no figures of the key, or the figures sum to more than 2^62
unfoldable pub view_fault : FigureKey → Dhat → Option ViewFault
view_fault key dhat =
    if has_figures key dhat
    then (if nat_lt (2 ^ 62) (sum (point_costs key dhat)) then Some TooLarge else None)
    else Some NoFigures
