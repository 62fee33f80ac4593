use Rattle.ht_trace.proofs.GrowthLemmas.{continues-same}
use Rattle.ht_trace.proofs.tables.Tables.stacks.Goals as goal

pub returns-clause-continues : goal.returns-clause-continues
returns-clause-continues c = continues-same c.args.self.now
