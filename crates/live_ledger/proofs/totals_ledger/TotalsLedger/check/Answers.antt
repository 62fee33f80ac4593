use Rattle.std.proofs.Common.{◌≡◌, Option, arith, sym, ◌∙◌, ap, Bool, cond, refl}
use Rattle.std.specs.Prelude.{◌==◌, Some, None}
use Rattle.std.proofs.lemmas.Bool.{ne_eqb}
use Rattle.live_ledger.specs.declared.event.EventFault.{EventFault}
use Rattle.live_ledger.specs.declared.event.EventFault.TheVariants.{FreeOfNothing}
use Rattle.live_ledger.specs.Faults.{fault_at}
use Rattle.live_ledger.specs.TotalsState.{ledger_of}
use Rattle.live_ledger.proofs.Entries.{entry-within}
use Rattle.live_ledger.proofs.PossibleLemmas.{possible-more}
use Rattle.live_ledger.proofs.Stands.{fault_at-is}
use Rattle.live_ledger.proofs.Views.{fault-of_entry, fits-alloc, whole_of}
use Rattle.live_ledger.proofs.totals_ledger.TotalsLedger.check.Goals as goal
use Rattle.live_ledger.proofs.totals_ledger.TotalsLedger.check.Goals.{After-index}

pub index-requires : goal.index-requires
index-requires c =
    let held = rw (← c.self.view_is, c.in-Free.is) at c.requires.held in
    omega (
      arith,
      entry-within c.self.inside.infos.items c.in-Free.info (record { stack = c.in-Free.stack; size = c.in-Free.size })
          held,
    )

pub returns-else-size-self-clause-possible : goal.returns-else-size-self-clause-possible
returns-else-size-self-clause-possible c =
    let figures : None ≡ fault_at (ledger_of c.args.self.now) c.args.event =
    rw (← c.self.view_is, c.in-Alloc.is)
    (fits-alloc _ _ c.self.invariant.allocated_within (omega (arith, c.if-size-self.false))) in
    λ events stands. possible-more _ events _ c.requires.held stands (sym (figures ∙ fault_at-is _ events _ stands))

pub returns-in-Tick-clause-possible : goal.returns-in-Tick-clause-possible
returns-in-Tick-clause-possible c =
    λ events stands. possible-more _ events _ c.requires.held stands (rw c.in-Tick.is refl)

-- the fault of a free by the entry that is read
fault : (c : After-index)
    → fault_at (ledger_of c.args.self.now) c.args.event
    ≡ cond (c.index.result.now.blocks == 0) (Some FreeOfNothing) None
fault c =
    rw (← c.self.view_is, c.in-Free.is)
    (fault-of_entry
    (whole_of c.self.inside.stacks c.self.inside.infos.items c.self.inside.sums c.self.inside.last_allocated)
    c.in-Free.info c.in-Free.stack c.in-Free.size c.index.result.now
    (rw (← c.self.view_is, c.in-Free.is) at c.requires.held) c.index.ensures)

pub returns-then-index-eq0 : goal.returns-then-index-eq0
returns-then-index-eq0 c =
    let figures : Some FreeOfNothing ≡ fault_at (ledger_of c.args.self.now) c.args.event =
    rw (fault (goal.at.returns-then-index-eq0 c).After-index, c.if-index-eq0.true) refl in
    record {
      by_figures = figures;
      fault = λ events stands. figures ∙ fault_at-is _ events _ stands;
      possible = tt;
      sound = rw (← c.self.view_is) c.self.invariant;
    }

pub returns-else-index-eq0 : goal.returns-else-index-eq0
returns-else-index-eq0 c =
    let figures : None ≡ fault_at (ledger_of c.args.self.now) c.args.event =
    rw (fault (goal.at.returns-else-index-eq0 c).After-index)
    (ap (λ (b : Bool). cond {A = Option EventFault} b (Some FreeOfNothing) None)
    (sym (ne_eqb _ _ c.if-index-eq0.false))) in
    record {
      by_figures = figures;
      fault = λ events stands. figures ∙ fault_at-is _ events _ stands;
      possible =
          λ events stands. possible-more _ events _ c.requires.held stands
          (sym (figures ∙ fault_at-is _ events _ stands));
      sound = rw (← c.self.view_is) c.self.invariant;
    }
