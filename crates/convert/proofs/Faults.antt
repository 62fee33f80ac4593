-- Lemmas on what stands against a conversion.
use Rattle.std.proofs.Common.{◌≡◌, ℕ, ◌^◌, ◌<◌, ◌≤◌, ◌||◌, Bool, true, false, List, Option, None, Some, refl, sym, ap}
use Rattle.std.proofs.Common.{◌∙◌}
use Rattle.std.specs.Prelude.{nat_lt, sum}
use Rattle.std.proofs.lemmas.Bool.{cond-false, cond-true, le-ltb, lt-ltb}
use Rattle.dhat_json.specs.declared.figure.FigureKey.{FigureKey}
use Rattle.dhat_json.specs.declared.figure.FigureKey.TheVariants.{Eb, Gb}
use Rattle.dhat_json.specs.declared.profile.Dhat.{Dhat}
use Rattle.dhat_json.specs.Figure.{has_figures}
use Rattle.dhat_view.specs.PointCosts.{point_costs}
use Rattle.massif_file.specs.declared.profile.Profile.{Profile}
use Rattle.massif_file.specs.declared.profile.Snap.{Snap}
use Rattle.massif_file.specs.TreeLine.{TreeLine}
use Rattle.convert.specs.declared.fault.ConvertFault.TheVariants.{NoFigures, NoTree, TooLarge}
use Rattle.convert.specs.Chosen.{chosen}
use Rattle.convert.specs.ConvertFault.{converted_fault, fault_if, folded_fault, folded_massif_fault, is_too_large}
use Rattle.convert.specs.ConvertFault.{items_fault, snap_fault}
use Rattle.convert.specs.Levels.{left_in}
use Rattle.convert.specs.TreeItems.{tree_items}
use Rattle.convert.proofs.Walks.{tree-sum}

pub no-figures : (key : FigureKey) (dhat : Dhat) → has_figures key dhat ≡ false → folded_fault key dhat ≡ Some NoFigures
unfolding folded_fault
no-figures key dhat has =
    cond-false (has_figures key dhat) (fault_if (is_too_large (sum (point_costs key dhat)))) (Some NoFigures) has

pub too-large : (key : FigureKey) (dhat : Dhat) → has_figures key dhat ≡ true → 2 ^ 62 < sum (point_costs key dhat)
    → folded_fault key dhat ≡ Some TooLarge
unfolding folded_fault
too-large key dhat has large =
    cond-true (has_figures key dhat) (fault_if (is_too_large (sum (point_costs key dhat)))) (Some NoFigures) has
    ∙ cond-true (nat_lt (2 ^ 62) (sum (point_costs key dhat))) (Some TooLarge) None
    (lt-ltb (2 ^ 62) (sum (point_costs key dhat)) large)

pub no-fault : (key : FigureKey) (dhat : Dhat) → has_figures key dhat ≡ true → sum (point_costs key dhat) ≤ 2 ^ 62
    → folded_fault key dhat ≡ None
unfolding folded_fault
no-fault key dhat has within =
    cond-true (has_figures key dhat) (fault_if (is_too_large (sum (point_costs key dhat)))) (Some NoFigures) has
    ∙ cond-false (nat_lt (2 ^ 62) (sum (point_costs key dhat))) (Some TooLarge) None
    (le-ltb (2 ^ 62) (sum (point_costs key dhat)) within)

-- the same of the Massif profile
pub no-lives : (dhat : Dhat) → dhat.bklt ≡ false → converted_fault dhat ≡ Some NoFigures
unfolding converted_fault
no-lives dhat has =
    cond-false dhat.bklt
    (fault_if
    (is_too_large dhat.te || is_too_large (sum (point_costs Gb dhat)) || is_too_large (sum (point_costs Eb dhat))))
    (Some NoFigures) has

any-large : (dhat : Dhat) → dhat.bklt ≡ true
    → (is_too_large dhat.te || is_too_large (sum (point_costs Gb dhat)) || is_too_large (sum (point_costs Eb dhat)))
    ≡ true
    → converted_fault dhat ≡ Some TooLarge
unfolding converted_fault
any-large dhat has large =
    cond-true dhat.bklt
    (fault_if
    (is_too_large dhat.te || is_too_large (sum (point_costs Gb dhat)) || is_too_large (sum (point_costs Eb dhat))))
    (Some NoFigures) has
    ∙ ap fault_if large

pub late-end : (dhat : Dhat) → dhat.bklt ≡ true → 2 ^ 62 < dhat.te → converted_fault dhat ≡ Some TooLarge
late-end dhat has large =
    any-large dhat has
    (ap (λ (b : Bool). b || is_too_large (sum (point_costs Gb dhat)) || is_too_large (sum (point_costs Eb dhat)))
    (lt-ltb (2 ^ 62) dhat.te large))

pub large-peak : (dhat : Dhat) → dhat.bklt ≡ true → 2 ^ 62 < sum (point_costs Gb dhat)
    → converted_fault dhat ≡ Some TooLarge
large-peak dhat has large =
    any-large dhat has
    (ap (λ (b : Bool). is_too_large dhat.te || b || is_too_large (sum (point_costs Eb dhat)))
    (lt-ltb (2 ^ 62) (sum (point_costs Gb dhat)) large)
    ∙ either (is_too_large dhat.te))
  where
    either : (a : Bool) → (a || true || is_too_large (sum (point_costs Eb dhat))) ≡ true
    either true = refl
    either false = refl

pub large-end : (dhat : Dhat) → dhat.bklt ≡ true → 2 ^ 62 < sum (point_costs Eb dhat)
    → converted_fault dhat ≡ Some TooLarge
large-end dhat has large =
    any-large dhat has
    (ap (λ (b : Bool). is_too_large dhat.te || is_too_large (sum (point_costs Gb dhat)) || b)
    (lt-ltb (2 ^ 62) (sum (point_costs Eb dhat)) large)
    ∙ either (is_too_large dhat.te) (is_too_large (sum (point_costs Gb dhat))))
  where
    either : (a b : Bool) → (a || b || true) ≡ true
    either true b = refl
    either false true = refl
    either false false = refl

pub all-small : (dhat : Dhat) → dhat.bklt ≡ true → dhat.te ≤ 2 ^ 62 → sum (point_costs Gb dhat) ≤ 2 ^ 62
    → sum (point_costs Eb dhat) ≤ 2 ^ 62 → converted_fault dhat ≡ None
unfolding converted_fault
all-small dhat has time at_peak at_end =
    cond-true dhat.bklt
    (fault_if
    (is_too_large dhat.te || is_too_large (sum (point_costs Gb dhat)) || is_too_large (sum (point_costs Eb dhat))))
    (Some NoFigures) has
    ∙ ap (λ (b : Bool). fault_if
    (b || is_too_large (sum (point_costs Gb dhat)) || is_too_large (sum (point_costs Eb dhat)))) (le-ltb
    (2 ^ 62) dhat.te time)
    ∙ ap (λ (b : Bool). fault_if (b || is_too_large (sum (point_costs Eb dhat))))
    (le-ltb (2 ^ 62) (sum (point_costs Gb dhat)) at_peak)
    ∙ ap fault_if (le-ltb (2 ^ 62) (sum (point_costs Eb dhat)) at_end)

-- and of a Massif profile
pub no-snap : (number : Option ℕ) (profile : Profile) → chosen number profile ≡ None
    → folded_massif_fault number profile ≡ Some NoTree
unfolding folded_massif_fault
no-snap number profile none = ap snap_fault none

pub of-snap : (number : Option ℕ) (profile : Profile) (snap : Snap) → chosen number profile ≡ Some snap
    → folded_massif_fault number profile ≡ items_fault (tree_items snap.tree)
unfolding folded_massif_fault
of-snap number profile snap is = ap snap_fault is

pub tree-large : (lines : List TreeLine) (left : List ℕ) → left ≡ left_in lines → is_too_large (sum left) ≡ true
    → items_fault (tree_items lines) ≡ Some TooLarge
tree-large lines left is large = ap fault_if (ap is_too_large (tree-sum lines ∙ ap sum (sym is)) ∙ large)

pub tree-small : (lines : List TreeLine) (left : List ℕ) → left ≡ left_in lines → is_too_large (sum left) ≡ false
    → items_fault (tree_items lines) ≡ None
tree-small lines left is small = ap fault_if (ap is_too_large (tree-sum lines ∙ ap sum (sym is)) ∙ small)
