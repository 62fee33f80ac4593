-- Lemmas on definitions by a test.
use Rattle.std.proofs.Common.{◌≡◌, ◌≢◌, ℕ, ◌^◌, ◌<◌, ◌≤◌, ◌==◌, if◌then◌else◌, true, false, ◌++◌, None, Some, ◌∙◌}
use Rattle.std.specs.Prelude.{codes, decimal, nat_lt, sum}
use Rattle.std.proofs.lemmas.Bool.{cond-false, cond-true, eq-eqb, le-ltb, lt-ltb, ne_eqb}
use Rattle.dhat_json.specs.declared.figure.FigureKey.{FigureKey}
use Rattle.dhat_json.specs.declared.profile.Dhat.{Dhat}
use Rattle.dhat_json.specs.Figure.{has_figures}
use Rattle.dhat_view.specs.declared.fault.ViewFault.TheVariants.{NoFigures, TooLarge}
use Rattle.dhat_view.specs.Lines.{places_text}
use Rattle.dhat_view.specs.PointCosts.{point_costs}
use Rattle.dhat_view.specs.ViewFault.{view_fault}

pub places-one : (places : ℕ) → places ≡ 1 → places_text places ≡ codes "in 1 place below "
unfolding places_text
places-one places one =
    cond-true (places == 1) (codes "in 1 place below ") (codes "in " ++ (decimal places ++ codes " places below "))
    (eq-eqb places 1 one)

pub places-more : (places : ℕ) → places ≢ 1
    → places_text places ≡ codes "in " ++ (decimal places ++ codes " places below ")
unfolding places_text
places-more places other =
    cond-false (places == 1) (codes "in 1 place below ") (codes "in " ++ (decimal places ++ codes " places below "))
    (ne_eqb places 1 other)

pub no-figures : (key : FigureKey) (dhat : Dhat) → has_figures key dhat ≡ false → view_fault key dhat ≡ Some NoFigures
unfolding view_fault
no-figures key dhat has =
    cond-false (has_figures key dhat) (if nat_lt (2 ^ 62) (sum (point_costs key dhat)) then Some TooLarge else None)
    (Some NoFigures) has

by-sum : (key : FigureKey) (dhat : Dhat) → has_figures key dhat ≡ true
    → view_fault key dhat ≡ (if nat_lt (2 ^ 62) (sum (point_costs key dhat)) then Some TooLarge else None)
unfolding view_fault
by-sum key dhat has =
    cond-true (has_figures key dhat) (if nat_lt (2 ^ 62) (sum (point_costs key dhat)) then Some TooLarge else None)
    (Some NoFigures) has

pub too-large : (key : FigureKey) (dhat : Dhat) → has_figures key dhat ≡ true → 2 ^ 62 < sum (point_costs key dhat)
    → view_fault key dhat ≡ Some TooLarge
too-large key dhat has large =
    by-sum key dhat has
    ∙ cond-true (nat_lt (2 ^ 62) (sum (point_costs key dhat))) (Some TooLarge) None
    (lt-ltb (2 ^ 62) (sum (point_costs key dhat)) large)

pub no-fault : (key : FigureKey) (dhat : Dhat) → has_figures key dhat ≡ true → sum (point_costs key dhat) ≤ 2 ^ 62
    → view_fault key dhat ≡ None
no-fault key dhat has within =
    by-sum key dhat has
    ∙ cond-false (nat_lt (2 ^ 62) (sum (point_costs key dhat))) (Some TooLarge) None
    (le-ltb (2 ^ 62) (sum (point_costs key dhat)) within)
