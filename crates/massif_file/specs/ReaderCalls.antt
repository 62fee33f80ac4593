-- What the calls of the reader do: a line is taken or refused, and at the end the profile is given
-- or lent, which is that of all lines.
use Rattle.std.specs.Prelude.{◌≡◌, ◌≢◌, ℕ, ◌+◌, List, [], ◌∷◌, ◌++◌, length, Result, Ok, Err, None, All, IfOk, IfErr}
use Rattle.std.specs.Prelude.{IsOkAnd, OnOk}
use Rattle.std.specs.Borrow.{Bor}
use Rattle.massif_file.specs.declared.fault.ProfileFault.{ProfileFault}
use Rattle.massif_file.specs.declared.fault.ProfileFault.TheVariants as faults
use Rattle.massif_file.specs.declared.profile.Profile.{Profile}
use Rattle.massif_file.specs.IsProfile.{is_profile}
use Rattle.massif_file.specs.IsWritable.{IsLine, IsWritable}
use Rattle.massif_file.specs.ProfileFault.{profile_fault}
use Rattle.massif_file.specs.ProfileOf.{profile_of}
use Rattle.massif_file.specs.Progress.{Progress, after, end_of, fault_in, refused_for}
use Rattle.massif_file.specs.StandsFor.{StandsFor}
use Rattle.massif_file.specs.UnlessNoMemory.{UnlessNoMemory}

-- a line is the next step, or is refused; what was refused once, want of memory included, is refused from then on
pub record TakesLine (old : Progress) (line : List ℕ) (new : Progress) (result : Result (Unit {0}) ProfileFault)
    : Type 0 where
  pub taken : OnOk result (new ≡ after old line)
  pub not_refused : OnOk result (fault_in new ≡ None)
  pub kept : IfErr result (λ fault. new ≡ refused_for fault)
  pub refused : IfErr result (λ fault. UnlessNoMemory fault (after old line ≡ refused_for fault))
  pub again : (fault : ProfileFault) → old ≡ refused_for fault → result ≡ Err fault

-- the reader stands for the line with those before it; where it is refused, its fault is that of
-- the whole file, whatever lines follow, and isn't that the lines end too early
pub record TakesNext (old : Progress) (line : List ℕ) (new : Progress) (result : Result (Unit {0}) ProfileFault)
    : Type 0 where
  pub stands : OnOk result ((lines : List (List ℕ)) → StandsFor old lines → StandsFor new (lines ++ line ∷ []))
  pub not_truncated : fault_in old ≡ None → result ≢ Err faults.Truncated
  pub fault : IfErr result (λ fault. UnlessNoMemory fault
      ((lines later : List (List ℕ)) → StandsFor old lines
      → profile_of (lines ++ line ∷ later) ≡ Err (length lines + 1, fault)))
  pub first_fault : IfErr result (λ fault. UnlessNoMemory fault
      ((lines later : List (List ℕ)) → StandsFor old lines
      → profile_fault (lines ++ line ∷ later) (length lines + 1) fault))

-- the profile is that of all lines, by the relation and by the function; else they end too early
pub record GivesProfile (reader : Progress) (result : Result Profile ProfileFault) : Type 0 where
  pub exact : result ≡ end_of reader
  pub read : (lines : List (List ℕ)) → StandsFor reader lines → IfOk result (λ profile. is_profile lines profile)
  pub only : (lines : List (List ℕ)) (profile : Profile) → StandsFor reader lines → is_profile lines profile
      → result ≡ Ok profile
  pub writable : (lines : List (List ℕ)) → StandsFor reader lines → All IsLine lines
      → IfOk result (λ profile. IsWritable profile)
  pub truncated : (lines : List (List ℕ)) → StandsFor reader lines
      → IfErr result (λ fault. fault ≡ faults.Truncated)
  pub first_fault : (lines : List (List ℕ)) → StandsFor reader lines
      → IfErr result (λ fault. profile_fault lines (length lines + 1) fault)
  pub profile : (lines : List (List ℕ)) → StandsFor reader lines
      → IfOk result (λ profile. profile_of lines ≡ Ok profile)
  pub fault : (lines : List (List ℕ)) → StandsFor reader lines
      → IfErr result (λ fault. profile_of lines ≡ Err (length lines + 1, fault))

-- the same of a profile that is lent
pub record LendsProfile (reader : Progress) (result : Result (Bor Profile) ProfileFault) : Type 0 where
  pub exact : IfOk result (λ profile. end_of reader ≡ Ok profile.now)
  pub refused : IfErr result (λ fault. end_of reader ≡ Err fault)
  pub read : (lines : List (List ℕ)) → StandsFor reader lines → IfOk result (λ profile. is_profile lines profile.now)
  pub only : (lines : List (List ℕ)) (profile : Profile) → StandsFor reader lines → is_profile lines profile
      → IsOkAnd result (λ lent. lent.now ≡ profile)
  pub writable : (lines : List (List ℕ)) → StandsFor reader lines → All IsLine lines
      → IfOk result (λ profile. IsWritable profile.now)
  pub truncated : (lines : List (List ℕ)) → StandsFor reader lines
      → IfErr result (λ fault. fault ≡ faults.Truncated)
  pub first_fault : (lines : List (List ℕ)) → StandsFor reader lines
      → IfErr result (λ fault. profile_fault lines (length lines + 1) fault)
  pub profile : (lines : List (List ℕ)) → StandsFor reader lines
      → IfOk result (λ profile. profile_of lines ≡ Ok profile.now)
  pub fault : (lines : List (List ℕ)) → StandsFor reader lines
      → IfErr result (λ fault. profile_of lines ≡ Err (length lines + 1, fault))
