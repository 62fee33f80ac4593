use Rattle.live_ledger.proofs.Stands.{totals-none}
use Rattle.live_ledger.proofs.totals_ledger.TotalsLedger.new.Goals as goal

pub returns-clause-stands : goal.returns-clause-stands
returns-clause-stands c = rw (c.new.ensures.items, c.new-2.ensures) totals-none
