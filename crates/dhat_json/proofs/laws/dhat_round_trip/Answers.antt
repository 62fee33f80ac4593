use Rattle.dhat_json.specs.DhatValue.{dhat_value}
use Rattle.dhat_json.proofs.RoundTrip.{value_says}
use Rattle.dhat_json.proofs.Taken.{is_taken}
use Rattle.dhat_json.proofs.laws.dhat_round_trip.Goals as goal

pub returns-clause-says : goal.returns-clause-says
returns-clause-says c = value_says

pub returns-clause-again : goal.returns-clause-again
returns-clause-again c dhat sound = is_taken (dhat_value dhat) dhat (value_says dhat sound)
