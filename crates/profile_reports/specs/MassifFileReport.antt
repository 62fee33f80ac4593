-- Of a Massif file, what a command makes of the profile that the lines are is written, or their
-- first fault, or that of the profile, is told. What lines are is the function `profile_of`, to
-- which the law `massif_profiles` ties the relations `is_profile` and `profile_fault`.
use Rattle.std.specs.Prelude.{ℕ, ◌+◌, ◌==◌, if◌then◌else◌, List, [], ◌∷◌, ◌++◌, length, Option, Some, None, Result, Ok}
use Rattle.std.specs.Prelude.{Err}
use Rattle.massif_file.specs.declared.fault.ProfileFault.{ProfileFault}
use Rattle.massif_file.specs.declared.profile.Profile.{Profile}
use Rattle.massif_file.specs.ProfileOf.{profile_of}
use Rattle.command_frame.specs.Plan.{Plan, one_file}
use Rattle.command_frame.specs.Report.{Refuses, Report, Verdict}
use Rattle.command_frame.specs.Told.{Told}
use Rattle.profile_reports.specs.declared.massif_file_fault.MassifFileFault.TheVariants.{File}
use Rattle.profile_reports.specs.MassifFileFault.{told}

-- what is told of lines that are no profile
abbrev pub fault_told : Result Profile (ℕ × ProfileFault) → Option Told
fault_told (Ok profile) = None
fault_told (Err first) = Some (told (File first.1))

-- the same where it is this line that has their first fault
abbrev pub told_at : ℕ → Result Profile (ℕ × ProfileFault) → Option Told
told_at number (Ok profile) = None
told_at number (Err first) = if first.0 == number then Some (told (File first.1)) else None

-- what is made of the profile, where the lines are one
abbrev pub massif_file_verdict : (Profile → Verdict) → Result Profile (ℕ × ProfileFault) → Verdict
massif_file_verdict verdict (Ok profile) = verdict profile
massif_file_verdict verdict (Err first) = Refuses (told (File first.1))

-- what lines are is told by `profile_of`: the profile that they are by the relation `is_profile`,
-- or by `profile_fault` the number of their first faulty line and its fault, to which the law
-- `massif_profiles` of massif_file ties it. A line is refused where it has the first fault of the
-- lines up to it, and the profile is judged once all were read
abbrev pub massif_file_report : (Profile → Verdict) → Report
massif_file_report verdict = record {
  line_fault = λ earlier line. told_at (length earlier + 1) (profile_of (earlier ++ line ∷ []));
  end_fault = λ lines ended. fault_told (profile_of lines);
  gains = λ earlier line. [];
  verdict = λ lines. massif_file_verdict verdict (profile_of lines);
}

-- one Massif file is read
abbrev pub massif_file_plan : List ℕ → (Profile → Verdict) → Plan
massif_file_plan file verdict = one_file file (massif_file_report verdict)
