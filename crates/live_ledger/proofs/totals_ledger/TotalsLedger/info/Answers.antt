use Rattle.std.proofs.Common.{◌<◌, arith, length}
use Rattle.std.proofs.lemmas.Bool.Decides.{nat_tests}
use Rattle.std.proofs.lemmas.Grind.{common_steps}
use Rattle.live_ledger.proofs.Views.{stack-of_entry}
use Rattle.live_ledger.proofs.totals_ledger.TotalsLedger.info.Goals as goal

pub returns-in-Some-clause-stack_held : goal.returns-in-Some-clause-stack_held
returns-in-Some-clause-stack_held c =
    let found = c.in-Some.ensures.lookup in
    let items = c.deref.ensures.value in
    let within : c.args.n < length c.self.inside.infos.items = grind (arith, nat_tests, common_steps) in
    rw (← c.self.view_is)
    (stack-of_entry _ _ _ c.args.n c.in-Some.entry.now c.self.invariant within (rw items at found.1))
