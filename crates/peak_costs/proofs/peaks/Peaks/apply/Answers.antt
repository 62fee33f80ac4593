use Rattle.std.proofs.Common.{◌≡◌, rules}
use Rattle.peak_costs.proofs.Keeping.{sound-of}
use Rattle.peak_costs.proofs.PeakLemmas.{stands-tick}
use Rattle.peak_costs.proofs.peaks.Peaks.apply.Goals as goal

pub returns-in_ok-apply-in-Tick-clause-takes : goal.returns-in_ok-apply-in-Tick-clause-takes
returns-in_ok-apply-in-Tick-clause-takes g c =
    let same : c.apply.new.self ≡ c.self.inside.ledger = rw c.in-Tick.is at c.in_ok-apply-in-Tick.ensures.taken.changes
    in
    record {
      by_figures = search rules;
      fault = search rules;
      stands =
          rw (← c.self.view_is, same, c.in-Tick.is)
          (λ events stands. stands-tick _ events c.in-Tick.ms stands
          (rw (same, c.in-Tick.is) at (c.in_ok-apply-in-Tick.ensures.taken.stands events stands.ledger)));
      changes = search rules;
      ledger = record { at_most_one_more = search rules; stacks = search rules; infos = search rules };
      unchanged = search rules;
    }

pub returns-in_ok-apply-in-Tick-clause-sound : goal.returns-in_ok-apply-in-Tick-clause-sound
returns-in_ok-apply-in-Tick-clause-sound g c =
    let same : c.apply.new.self ≡ c.self.inside.ledger = rw c.in-Tick.is at c.in_ok-apply-in-Tick.ensures.taken.changes
    in
    rw same (sound-of _ _ _ _ _ c.self.invariant.kept)
