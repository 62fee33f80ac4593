use Rattle.std.proofs.Common.{ℕ, arith, ap, set}
use Rattle.std.specs.Prelude.{Some}
use Rattle.live_ledger.specs.declared.totals_ledger.InfoEntry.{InfoEntry}
use Rattle.live_ledger.specs.Consistent.{AreKept}
use Rattle.live_ledger.specs.Sums.{with_alloc}
use Rattle.live_ledger.specs.TotalsState.{one_more}
use Rattle.live_ledger.proofs.Consistency.{entry-fits, kept-alloc}
use Rattle.live_ledger.proofs.Entries.{IsEntry, entry-is_held, entry-read, entry-within}
use Rattle.live_ledger.proofs.Views.{whole_of}
use Rattle.live_ledger.proofs.totals_ledger.TotalsLedger.allocate.Goals as goal
use Rattle.live_ledger.proofs.totals_ledger.TotalsLedger.allocate.Goals.{After-allocate, After-index_mut-entry}

pub index_mut-entry-requires : goal.index_mut-entry-requires
index_mut-entry-requires c =
    let held = rw (← c.self.view_is) at c.requires.held in
    omega (
      arith,
      entry-within c.self.inside.infos.items c.args.info (record { stack = held.0; size = c.args.size }) held.1,
    )

-- the entry has the size that is told of its info
entry : (c : After-index_mut-entry)
    → (stack : ℕ) × IsEntry c.self.inside.infos.items c.args.info stack c.args.size c.index_mut-entry.result.now
entry c =
    let held = rw (← c.self.view_is) at c.requires.held in (
      held.0,
      entry-is_held c.self.inside.infos.items c.args.info held.0 c.args.size c.index_mut-entry.result.now held.1
          c.index_mut-entry.ensures.value,
    )

pub overflow_add-entry : goal.overflow_add-entry
overflow_add-entry c =
    let count = rw (← c.self.view_is) at c.requires.count in
    omega (arith, (entry-fits _ _ _ _ _ _ _ c.self.invariant (entry c).1 count).0)

pub overflow_add-entry-2 : goal.overflow_add-entry-2
overflow_add-entry-2 c =
    let count = rw (← c.self.view_is) at c.requires.count in
    omega (
      arith,
      (entry-fits _ _ _ _ _ _ _ c.self.invariant (entry (goal.at.overflow_add-entry-2 c).After-index_mut-entry).1
          count).1,
    )

-- what is kept after it
kept : (c : After-allocate) {stack : ℕ}
    → IsEntry c.self.inside.infos.items c.args.info stack c.args.size c.index_mut-entry.result.now
    → AreKept c.self.inside.stacks
    (set c.self.inside.infos.items c.args.info (one_more c.index_mut-entry.result.now)) c.allocate.new.self
kept c entry_is =
    let count = rw (← c.self.view_is) at c.requires.count in
    rw c.allocate.ensures
    (kept-alloc _ _ _ _ _ _ _ c.self.invariant entry_is (rw (← c.self.view_is) at c.requires.fits) count)

pub invariant_of-self : goal.invariant_of-self
invariant_of-self c =
    let at = goal.at.invariant_of-self c in
    kept at.After-allocate (entry at.After-index_mut-entry).1

pub returns-clause-after : goal.returns-clause-after
returns-clause-after c =
    let held = rw (← c.self.view_is) at c.requires.held in
    let inside = c.self.inside in
    let entry =
    entry-is_held inside.infos.items c.args.info held.0 c.args.size c.index_mut-entry.result.now held.1
    c.index_mut-entry.ensures.value in
    let whole = whole_of inside.stacks inside.infos.items inside.sums inside.last_allocated in
    rw (← c.self.view_is, c.allocate.ensures)
    (ap (λ (e : InfoEntry). whole_of inside.stacks (set inside.infos.items c.args.info (one_more e))
    (with_alloc inside.sums c.args.size) (Some c.args.info)) (entry-read
    whole c.args.info c.index_mut-entry.result.now entry.within entry.is))

pub returns-clause-sound : goal.returns-clause-sound
returns-clause-sound c =
    let at = goal.at.returns-clause-sound c in
    kept at.After-allocate (entry at.After-index_mut-entry).1
