-- Why the lines of a file are no profile. The fault of lines is that of the first one that can't
-- follow those before it, or their end.
use Rattle.std.specs.Prelude.{◌≡◌, ◌⊎◌, ℕ, ◌+◌, false, List, ◌∷◌, ◌++◌, length}
use Rattle.massif_file.specs.declared.fault.ProfileFault.{ProfileFault}
use Rattle.massif_file.specs.declared.fault.ProfileFault.TheVariants.{Truncated}
use Rattle.massif_file.specs.Blanks.{is_skipped}
use Rattle.massif_file.specs.IsProfile.{saying}
use Rattle.massif_file.specs.Refuses.{Refuses, EndsEarly}

-- line `number`, counted from 1, can't follow the lines before it, for this fault
pub record IsRefusedLine (lines : List (List ℕ)) (number : ℕ) (fault : ProfileFault) : Type 0 where
  pub before : List (List ℕ)
  pub line : List ℕ
  pub later : List (List ℕ)
  pub parts : lines ≡ before ++ line ∷ later
  pub place : number ≡ length before + 1
  pub says : is_skipped line ≡ false
  pub refused : Refuses (saying before) line fault

-- the lines end too early: the fault stands at the line after the last
pub record IsTruncated (lines : List (List ℕ)) (number : ℕ) (fault : ProfileFault) : Type 0 where
  pub truncated : fault ≡ Truncated
  pub place : number ≡ length lines + 1
  pub early : EndsEarly (saying lines)

-- the first fault of the lines, and the number of the line that has it: the lines before it are those of a profile as
-- far as they go
abbrev pub profile_fault : List (List ℕ) → ℕ → ProfileFault → Type 0
profile_fault lines number fault = IsRefusedLine lines number fault ⊎ IsTruncated lines number fault
