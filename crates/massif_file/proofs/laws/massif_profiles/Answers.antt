use Rattle.massif_file.proofs.Profiles.{read_is, is_read, fault_is, is_fault, one_of, one_fault, one_profile, not_both}
use Rattle.massif_file.proofs.ReadingLemmas.{at_end}
use Rattle.massif_file.proofs.laws.massif_profiles.Goals as goal

pub returns-clause-each : goal.returns-clause-each
returns-clause-each c lines = record {
  profile = λ profile. (read_is lines profile, is_read lines profile);
  fault = λ number fault. (fault_is lines number fault, is_fault lines number fault);
  one = one_of lines;
  one_fault = one_fault lines;
  one_profile = one_profile lines;
  not_both = not_both lines;
}

pub returns-clause-stands : goal.returns-clause-stands
returns-clause-stands c = at_end
