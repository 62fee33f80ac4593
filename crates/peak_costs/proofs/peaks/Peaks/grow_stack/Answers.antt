use Rattle.std.proofs.Common.{◌≤◌, ap, arith, refl, subst, sym}
use Rattle.live_ledger.specs.declared.totals.Totals.{Totals}
use Rattle.live_ledger.specs.LedgerState.{LedgerState}
use Rattle.peak_costs.proofs.Keeping.{HasStack, Longer, kept-stack}
use Rattle.peak_costs.proofs.PeakLemmas.{stands-cells, stands-stack, state-stack}
use Rattle.peak_costs.proofs.peaks.Peaks.grow_stack.Goals as goal

pub returns-in_err-add_cell-clause-stands : goal.returns-in_err-add_cell-clause-stands
returns-in_err-add_cell-clause-stands c =
    rw (← c.self.view_is)
    (λ events stands. stands-cells _ _ _ _ _ _ _ _ events c.add_cell.ensures.values (λ n. refl) (λ n. refl) stands)

pub returns-in_err-add_cell-2-clause-stands : goal.returns-in_err-add_cell-2-clause-stands
returns-in_err-add_cell-2-clause-stands c =
    rw (← c.self.view_is)
    (λ events stands. stands-cells _ _ _ _ _ _ _ _ events c.add_cell.ensures.values c.add_cell-2.ensures.values
    (λ n. refl) stands)

pub returns-in_err-add_cell-3-clause-stands : goal.returns-in_err-add_cell-3-clause-stands
returns-in_err-add_cell-3-clause-stands c =
    rw (← c.self.view_is)
    (λ events stands. stands-cells _ _ _ _ _ _ _ _ events c.add_cell.ensures.values c.add_cell-2.ensures.values
    c.add_cell-3.ensures.values stands)

pub returns-in_err-number-clause-stands : goal.returns-in_err-number-clause-stands
returns-in_err-number-clause-stands c =
    rw (← c.self.view_is, c.in_err-number.ensures.unchanged)
    (λ events stands. stands-cells _ _ _ _ _ _ _ _ events c.add_cell.ensures.values c.add_cell-2.ensures.values
    c.add_cell-3.ensures.values stands)

-- the ledger has one more stack, and each list of cells is long enough for it
record Grown (c : goal.In_ok-number) : Type 0 where
  has : HasStack c.self.inside.ledger c.grow_stack.new.self
  saved : Longer c.self.inside.ledger.stacks c.self.inside.saved c.add_cell.new.cells
  blocks : Longer c.self.inside.ledger.stacks c.self.inside.blocks c.add_cell-2.new.cells
  stamps : Longer c.self.inside.ledger.stacks c.self.inside.stamps c.add_cell-3.new.cells

grown : (c : goal.In_ok-number) → Grown c
grown c = record {
  has = record {
    sound = c.in_ok-number.ensures.sound;
    stacks = ap (λ (l : LedgerState). l.stacks) c.in_ok-number.ensures.grown;
    figures = c.in_ok-number.ensures.figures;
    totals = ap (λ (l : LedgerState). l.totals) c.in_ok-number.ensures.grown;
  };
  saved =
      record {
        longer = omega (arith, c.in_ok-add_cell.ensures.longer, c.stacks-stacks.ensures.value);
        values = c.add_cell.ensures.values;
      };
  blocks =
      record {
        longer = omega (arith, c.in_ok-add_cell-2.ensures.longer, c.stacks-stacks.ensures.value);
        values = c.add_cell-2.ensures.values;
      };
  stamps =
      record {
        longer = omega (arith, c.in_ok-add_cell-3.ensures.longer, c.stacks-stacks.ensures.value);
        values = c.add_cell-3.ensures.values;
      };
}

pub invariant_of-self-2 : goal.invariant_of-self-2
invariant_of-self-2 c = record {
  kept =
      kept-stack _ _ _ _ _ _ _ _ _ c.self.invariant.kept (grown c).has (grown c).saved (grown c).blocks
      (grown c).stamps;
  live_within =
      subst (λ (totals : Totals). totals.live ≤ c.self.inside.mark.total) (sym (grown c).has.totals)
      c.self.invariant.live_within;
}

pub returns-clause-grown : goal.returns-clause-grown
returns-clause-grown c =
    rw (← c.self.view_is)
    (state-stack _ _ _ _ _ _ _ _ _ c.in_ok-number.ensures.grown c.self.invariant.kept (grown c).has (grown c).saved
    (grown c).blocks (grown c).stamps)

pub returns-clause-stands : goal.returns-clause-stands
returns-clause-stands c =
    rw (← c.self.view_is)
    (λ events stands. stands-stack _ _ _ _ _ _ _ _ _ events c.self.invariant.kept (grown c).has (grown c).saved
    (grown c).blocks (grown c).stamps (c.in_ok-number.ensures.stands events stands.ledger) stands)
