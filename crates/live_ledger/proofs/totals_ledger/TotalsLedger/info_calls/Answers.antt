use Rattle.std.proofs.Common.{◌≡◌, ◌∙◌, sym}
use Rattle.std.specs.Prelude.{slice_index}
use Rattle.live_ledger.specs.Consistent.{calls_of}
use Rattle.live_ledger.specs.TotalsState.{ledger_of}
use Rattle.live_ledger.proofs.Entries.{number-at}
use Rattle.live_ledger.proofs.totals_ledger.TotalsLedger.info_calls.Goals as goal

pub returns-clause-calls : goal.returns-clause-calls
returns-clause-calls c =
    let held = rw (← c.self.view_is) at c.requires in
    let value : c.index.result.now.calls ≡ slice_index (ledger_of c.args.self.now).info_calls c.args.info =
    rw (← c.self.view_is)
    (sym (number-at calls_of c.self.inside.infos.items c.args.info c.index.result.now held c.index.ensures)) in
    λ events stands. value ∙ stands.each_info_calls c.args.info
