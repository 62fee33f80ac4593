use Rattle.peak_costs.proofs.Keeping.{sound-of}
use Rattle.peak_costs.proofs.peaks.Peaks.peak_total.Goals as goal

pub returns-clause-sound : goal.returns-clause-sound
returns-clause-sound c = rw (← c.self.view_is) (sound-of _ _ _ _ _ c.self.invariant.kept)
