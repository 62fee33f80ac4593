-- Why a profile can't be converted. Nothing is folded where the points have no figures of the key,
-- where no snapshot with a tree is chosen, or where the items' numbers sum to more than 2^62; there
-- is no Massif profile where points tell of no lifetimes, or where the time at the end or what was
-- live is more than 2^62.
use Rattle.std.specs.Prelude.{◌≡◌, ◌≢◌, ℕ, ◌^◌, ◌||◌, nat_lt, Bool}
use Rattle.std.specs.Prelude.{if◌then◌else◌, List, Option, Some, None, Result, Err, sum}
use Rattle.std.specs.Prelude.{sum_by}
use Rattle.cost_tree.specs.Costed.{Costed}
use Rattle.dhat_json.specs.declared.figure.FigureKey.{FigureKey}
use Rattle.dhat_json.specs.declared.figure.FigureKey.TheVariants.{Eb, Gb}
use Rattle.dhat_json.specs.declared.profile.Dhat.{Dhat}
use Rattle.dhat_json.specs.Figure.{has_figures}
use Rattle.dhat_view.specs.PointCosts.{point_costs}
use Rattle.massif_file.specs.declared.profile.Profile.{Profile}
use Rattle.massif_file.specs.declared.profile.Snap.{Snap}
use Rattle.convert.specs.declared.fault.ConvertFault.{ConvertFault}
use Rattle.convert.specs.declared.fault.ConvertFault.TheVariants.{NoFigures, NoMemory, NoTree, TooLarge}
use Rattle.convert.specs.Chosen.{chosen}
use Rattle.convert.specs.TreeItems.{tree_items}

-- the fault is what stands against a profile, unless memory was wanting
abbrev pub IsFaultOf : Option ConvertFault → ConvertFault → Type 0
IsFaultOf defined fault = fault ≢ NoMemory → defined ≡ Some fault

-- the result is what stands against a profile, if anything does
abbrev pub IsRefused : {A : Type 0} → Option ConvertFault → Result A ConvertFault → Type 0
IsRefused defined result = (fault : ConvertFault) → defined ≡ Some fault → result ≡ Err fault

-- a number above 2^62
abbrev pub is_too_large : ℕ → Bool
is_too_large number = nat_lt (2 ^ 62) number

abbrev pub fault_if : Bool → Option ConvertFault
fault_if too_large = if too_large then Some TooLarge else None

-- what stands against the folded lines of a DHAT profile: its points have no figures of the key, or
-- these sum to more than 2^62
unfoldable pub folded_fault : FigureKey → Dhat → Option ConvertFault
folded_fault key dhat = if has_figures key dhat
    then fault_if (is_too_large (sum (point_costs key dhat))) else Some NoFigures

-- what stands against those of some items: their numbers sum to more than 2^62
abbrev pub items_fault : List Costed → Option ConvertFault
items_fault items = fault_if (is_too_large (sum_by (λ (item : Costed). item.cost) items))

-- what stands against those of a snapshot: there is none, or its tree has such items
abbrev pub snap_fault : Option Snap → Option ConvertFault
snap_fault None = Some NoTree
snap_fault (Some snap) = items_fault (tree_items snap.tree)

-- what stands against those of a Massif profile: no snapshot is chosen, or the chosen one has such a fault
unfoldable pub folded_massif_fault : Option ℕ → Profile → Option ConvertFault
folded_massif_fault number profile = snap_fault (chosen number profile)

-- what stands against the Massif profile of a DHAT profile: its points tell of no lifetimes, or the
-- time at its end, the bytes that were live at the peak or those that were live at the end are more
-- than 2^62
unfoldable pub converted_fault : Dhat → Option ConvertFault
converted_fault dhat =
    if dhat.bklt
    then fault_if (is_too_large dhat.te || is_too_large (sum (point_costs Gb dhat))
    || is_too_large (sum (point_costs Eb dhat)))
    else Some NoFigures
