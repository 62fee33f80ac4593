use Rattle.std.proofs.Common.{◌≡◌, ◌≤◌, arith, ap, ap₂, set, ℕ, ◌∙◌}
use Rattle.std.specs.Int.{from_bool}
use Rattle.std.specs.Prelude.{None}
use Rattle.live_ledger.specs.declared.totals_ledger.InfoEntry.{InfoEntry}
use Rattle.live_ledger.specs.Changes.{ended_by_free}
use Rattle.live_ledger.specs.Consistent.{AreKept}
use Rattle.live_ledger.specs.Sums.{with_free}
use Rattle.live_ledger.specs.TotalsState.{ledger_of, one_fewer}
use Rattle.live_ledger.proofs.Consistency.{entry-live, free-fits_whole, kept-free}
use Rattle.live_ledger.proofs.Entries.{IsEntry, byte-is, entry-is_held, entry-read, entry-within}
use Rattle.live_ledger.proofs.Views.{whole_of}
use Rattle.live_ledger.proofs.totals_ledger.TotalsLedger.free.Goals as goal
use Rattle.live_ledger.proofs.totals_ledger.TotalsLedger.free.Goals.{After-free, After-index_mut}

pub index_mut-requires : goal.index_mut-requires
index_mut-requires c =
    let held = rw (← c.self.view_is) at c.requires.held in
    omega (
      arith,
      entry-within c.self.inside.infos.items c.args.info (record { stack = held.0; size = c.args.size }) held.1,
    )

-- the entry has the size that is told of its info
entry : (c : After-index_mut)
    → (stack : ℕ) × IsEntry c.self.inside.infos.items c.args.info stack c.args.size c.index_mut.result.now
entry c =
    let held = rw (← c.self.view_is) at c.requires.held in (
      held.0,
      entry-is_held c.self.inside.infos.items c.args.info held.0 c.args.size c.index_mut.result.now held.1
          c.index_mut.ensures.value,
    )

pub free-requires-clause-freed : goal.free-requires-clause-freed
free-requires-clause-freed c =
    let held = entry (goal.at.free-requires-clause-freed c).After-index_mut in
    let live = entry-live _ _ _ _ _ held.1 (rw (← c.self.view_is) at c.requires.live) in
    let few : c.from-ended.result ≤ 1 = omega (arith, c.from-ended.ensures, (byte-is c.eq.result).1) in
    (free-fits_whole _ _ _ _ _ _ _ _ c.self.invariant held.1 live few).freed

-- what is kept after it
kept : (c : After-free) {stack : ℕ}
    → IsEntry c.self.inside.infos.items c.args.info stack c.args.size c.index_mut.result.now
    → AreKept c.self.inside.stacks (set c.self.inside.infos.items c.args.info (one_fewer c.index_mut.result.now))
    c.free.new.self
kept c entry_is =
    let count = rw (← c.self.view_is) at c.requires.count in
    let live = entry-live _ _ _ _ _ entry_is (rw (← c.self.view_is) at c.requires.live) in
    let few : c.from-ended.result ≤ 1 = omega (arith, c.from-ended.ensures, (byte-is c.eq.result).1) in
    rw c.free.ensures (kept-free _ _ _ _ _ _ _ _ c.self.invariant entry_is live few count)

pub invariant_of-self : goal.invariant_of-self
invariant_of-self c =
    let at = goal.at.invariant_of-self c in
    kept at.After-free (entry at.After-index_mut).1

pub returns-clause-ended : goal.returns-clause-ended
returns-clause-ended c = rw (← c.self.view_is) (c.from-ended.ensures ∙ ap from_bool c.eq.ensures ∙ (byte-is _).0)

pub returns-clause-after : goal.returns-clause-after
returns-clause-after c =
    let held = rw (← c.self.view_is) at c.requires.held in
    let inside = c.self.inside in
    let entry =
    entry-is_held inside.infos.items c.args.info held.0 c.args.size c.index_mut.result.now held.1
    c.index_mut.ensures.value in
    let whole = whole_of inside.stacks inside.infos.items inside.sums inside.last_allocated in
    let ended : c.from-ended.result ≡ ended_by_free (ledger_of whole) c.args.info =
    c.from-ended.ensures ∙ ap from_bool c.eq.ensures ∙ (byte-is _).0 in
    rw (← c.self.view_is, c.free.ensures)
    (ap₂ (λ (e : InfoEntry) (n : ℕ). whole_of inside.stacks (set inside.infos.items c.args.info (one_fewer e))
    (with_free inside.sums c.args.size n) None) (entry-read
    whole c.args.info c.index_mut.result.now entry.within entry.is) ended)

pub returns-clause-sound : goal.returns-clause-sound
returns-clause-sound c =
    let at = goal.at.returns-clause-sound c in
    kept at.After-free (entry at.After-index_mut).1
