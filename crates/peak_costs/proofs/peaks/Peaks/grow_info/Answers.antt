use Rattle.std.proofs.Common.{◌≤◌, subst, sym}
use Rattle.live_ledger.specs.declared.totals.Totals.{Totals}
use Rattle.peak_costs.proofs.Keeping.{kept-infos}
use Rattle.peak_costs.proofs.PeakLemmas.{stands-infos}
use Rattle.peak_costs.proofs.peaks.Peaks.grow_info.Goals as goal

pub invariant_of-self : goal.invariant_of-self
invariant_of-self c =
    record {
      kept =
          kept-infos _ _ _ _ _ _ c.self.invariant.kept c.grow_info.ensures.sound c.grow_info.ensures.info.stacks
          c.grow_info.ensures.info.figures c.grow_info.ensures.info.totals;
      live_within =
          subst (λ (totals : Totals). totals.live ≤ c.self.inside.mark.total) (sym c.grow_info.ensures.info.totals)
          c.self.invariant.live_within;
    }

pub returns-clause-stands : goal.returns-clause-stands
returns-clause-stands c =
    rw (← c.self.view_is)
    (λ events stands. stands-infos c.self.inside.ledger c.grow_info.new.self c.self.inside.saved c.self.inside.blocks
    c.self.inside.stamps c.self.inside.mark events c.grow_info.ensures.info.stacks c.grow_info.ensures.info.figures
    (c.grow_info.ensures.stands events stands.ledger) stands)
