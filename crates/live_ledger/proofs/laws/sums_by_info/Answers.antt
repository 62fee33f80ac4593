use Rattle.live_ledger.proofs.Infos.{weighed-calls}
use Rattle.live_ledger.proofs.laws.sums_by_info.Goals as goal

pub returns : goal.returns
returns c = weighed-calls
