-- What is read of the lines of a file, as a function of them: the profile, or the first faulty line with its fault.
use Rattle.std.specs.Prelude.{ℕ, suc, List, [], ◌∷◌, Option, Some, None, Result, Ok, Err}
use Rattle.massif_file.specs.declared.fault.ProfileFault.{ProfileFault}
use Rattle.massif_file.specs.declared.profile.Profile.{Profile}
use Rattle.massif_file.specs.Progress.{Progress, in_descriptions, after, fault_in, end_of}

-- the fault with the number of its line
abbrev pub at_line : ℕ → Result Profile ProfileFault → Result Profile (ℕ × ProfileFault)
at_line number (Ok profile) = Ok profile
at_line number (Err fault) = Err (number, fault)

-- what is read after a line, unless that line is refused
abbrev pub unless_refused : Option ProfileFault → ℕ → Result Profile (ℕ × ProfileFault)
    → Result Profile (ℕ × ProfileFault)
unless_refused None number later = later
unless_refused (Some fault) number later = Err (number, fault)

-- what is read of the lines from line `number` on
abbrev pub read_from : Progress → ℕ → List (List ℕ) → Result Profile (ℕ × ProfileFault)
read_from progress number [] = at_line number (end_of progress)
read_from progress number (line ∷ lines) = unless_refused (fault_in (after progress line)) number
    (read_from (after progress line) (suc number) lines)

-- the profile of the lines, or the number of the first faulty line and its fault
unfoldable pub profile_of : List (List ℕ) → Result Profile (ℕ × ProfileFault)
profile_of lines = read_from (in_descriptions []) 1 lines
