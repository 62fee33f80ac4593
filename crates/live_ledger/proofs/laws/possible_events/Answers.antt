use Rattle.live_ledger.proofs.Infos.{possible-balanced}
use Rattle.live_ledger.proofs.laws.possible_events.Goals as goal

pub returns : goal.returns
returns c = possible-balanced
