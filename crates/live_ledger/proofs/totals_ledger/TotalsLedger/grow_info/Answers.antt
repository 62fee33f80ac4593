use Rattle.std.proofs.Common.{refl}
use Rattle.live_ledger.specs.declared.totals_ledger.InfoEntry.{InfoEntry}
use Rattle.live_ledger.proofs.Consistency.{kept-info}
use Rattle.live_ledger.proofs.Stands.{totals-info}
use Rattle.live_ledger.proofs.totals_ledger.TotalsLedger.grow_info.Goals as goal

pub invariant_of-self-2 : goal.invariant_of-self-2
invariant_of-self-2 c =
    let room = rw (← c.self.view_is) at c.requires.room in
    let held = rw (← c.self.view_is) at c.requires.stack_held in
    let entry : InfoEntry = record { stack = c.args.stack; size = c.args.size; blocks = 0; calls = 0 } in
    rw c.in_ok-push.ensures.items (kept-info _ _ _ entry c.self.invariant room held refl refl)

pub returns-clause-stands : goal.returns-clause-stands
returns-clause-stands c =
    rw (← c.self.view_is, c.in_ok-push.ensures.items)
    (λ events stands. totals-info _ c.args.stack c.args.size events stands)

pub returns-clause-sound : goal.returns-clause-sound
returns-clause-sound c =
    let room = rw (← c.self.view_is) at c.requires.room in
    let held = rw (← c.self.view_is) at c.requires.stack_held in
    let entry : InfoEntry = record { stack = c.args.stack; size = c.args.size; blocks = 0; calls = 0 } in
    rw c.in_ok-push.ensures.items (kept-info _ _ _ entry c.self.invariant room held refl refl)
