use Rattle.dhat_trace.proofs.RangeLemmas.{none_there}
use Rattle.dhat_trace.proofs.known_places.KnownPlaces.new.Goals as goal

pub returns-clause-empty : goal.returns-clause-empty
returns-clause-empty c = none_there _ _ c.in_ok-empty_ranges.ensures.empty
