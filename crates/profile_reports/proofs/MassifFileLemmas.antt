-- What is told of the lines of a Massif file up to one of them.
use Rattle.std.proofs.Common.{◌≡◌, ℕ, ◌+◌, ◌==◌, Bool, false, cond, List, [], ◌∷◌, ◌++◌, length, Option, Some, None}
use Rattle.std.proofs.Common.{Result, Ok, Err, refl, ap, ◌∙◌, arith, length-append}
use Rattle.std.proofs.lemmas.Bool.Decides.{nat_tests}
use Rattle.massif_file.specs.declared.fault.ProfileFault.{ProfileFault}
use Rattle.massif_file.specs.declared.profile.Profile.{Profile}
use Rattle.massif_file.specs.ProfileOf.{at_line, profile_of}
use Rattle.command_frame.specs.Told.{Told}
use Rattle.profile_reports.specs.declared.massif_file_fault.MassifFileFault.TheVariants.{File}
use Rattle.profile_reports.specs.MassifFileFault.{told}
use Rattle.profile_reports.specs.MassifFileReport.{told_at}

-- lines that a reader took have no fault at the last of them
pub told-none : (lines : List (List ℕ)) (line : List ℕ) (r : Result Profile ProfileFault)
    → profile_of (lines ++ line ∷ []) ≡ at_line (length (lines ++ line ∷ []) + 1) r
    → told_at (length lines + 1) (profile_of (lines ++ line ∷ [])) ≡ None
told-none lines line r is = ap (told_at (length lines + 1)) is ∙ by r
  where
    by : (r : Result Profile ProfileFault)
        → told_at (length lines + 1) (at_line (length (lines ++ line ∷ []) + 1) r) ≡ None
    by (Ok profile) = refl
    by (Err fault) =
        let count = length-append lines (line ∷ []) in
        let other : (length (lines ++ line ∷ []) + 1 == length lines + 1) ≡ false = grind (arith, nat_tests, count) in
        ap (λ (b : Bool). cond {A = Option Told} b (Some (told (File fault))) None) other
