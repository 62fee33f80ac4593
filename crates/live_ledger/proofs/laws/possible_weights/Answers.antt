use Rattle.live_ledger.proofs.Infos.{possible-weights}
use Rattle.live_ledger.proofs.laws.possible_weights.Goals as goal

pub returns : goal.returns
returns c = possible-weights
