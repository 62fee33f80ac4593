-- What any lines are: they are a profile or have a fault, one alone, and not both. What is read of
-- lines that a reader took is what it gives at their end; what is read of texts without line feeds
-- may be written.
use Rattle.std.specs.Prelude.{◌≡◌, ◌⊎◌, ◌↔◌, ℕ, ◌+◌, List, length, Ok, Err}
use Rattle.massif_file.specs.declared.fault.ProfileFault.{ProfileFault}
use Rattle.massif_file.specs.declared.profile.Profile.{Profile}
use Rattle.massif_file.specs.IsProfile.{is_profile}
use Rattle.massif_file.specs.IsWritable.{IsWritable}
use Rattle.massif_file.specs.ProfileFault.{profile_fault}
use Rattle.massif_file.specs.ProfileOf.{at_line, profile_of}
use Rattle.massif_file.specs.Progress.{Progress, end_of}

pub record AreRead (lines : List (List ℕ)) : Type 0 where
  -- what is read, and what is refused
  pub profile : (profile : Profile) → (profile_of lines ≡ Ok profile) ↔ is_profile lines profile
  pub fault : (number : ℕ) (fault : ProfileFault)
      → (profile_of lines ≡ Err (number, fault)) ↔ profile_fault lines number fault
  -- one or the other
  pub one : ((profile : Profile) × is_profile lines profile)
      ⊎ ((number : ℕ) × (fault : ProfileFault) × profile_fault lines number fault)
  pub one_fault : (n m : ℕ) (f g : ProfileFault)
      → profile_fault lines n f → profile_fault lines m g → (n ≡ m) × (f ≡ g)
  pub one_profile : (p q : Profile) → is_profile lines p → is_profile lines q → p ≡ q
  pub not_both : (profile : Profile) (number : ℕ) (fault : ProfileFault)
      → is_profile lines profile → profile_fault lines number fault → ⊥

-- what is read of the lines is what the reader gives at their end
abbrev pub EndsAs : Progress → List (List ℕ) → Type 0
EndsAs reader lines = profile_of lines ≡ at_line (length lines + 1) (end_of reader)

-- a profile of the lines may be written
abbrev pub GiveWritable : List (List ℕ) → Type 0
GiveWritable lines = (profile : Profile) → is_profile lines profile → IsWritable profile
