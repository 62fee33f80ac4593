use Rattle.dhat_json.proofs.Says.{taken_says}
use Rattle.dhat_json.proofs.Taken.{is_taken, one_profile, none_found, is_sound}
use Rattle.dhat_json.proofs.laws.dhat_documents.Goals as goal

pub returns : goal.returns
returns c = record {
  profile = λ value dhat. (taken_says value dhat, is_taken value dhat);
  one_profile = one_profile;
  no_fault = none_found;
  sound = is_sound;
}
