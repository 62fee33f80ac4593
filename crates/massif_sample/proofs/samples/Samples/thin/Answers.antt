use Rattle.std.proofs.Common.{length, subst, sym}
use Rattle.cost_history.specs.HistoryState.{RoomyHistory}
use Rattle.massif_sample.specs.StandsFor.{IsSampling}
use Rattle.massif_sample.specs.View.{state_of}
use Rattle.massif_sample.proofs.Sampling.{sampling-thinned}
use Rattle.massif_sample.proofs.samples.Samples.thin.Goals as goal

pub returns-clause-sampling : goal.returns-clause-sampling
returns-clause-sampling c =
    let inside = c.self.inside in
    let old = state_of inside.options inside.running inside.array inside.failed inside.fronts inside.history in
    rw (← c.self.view_is)
    (λ names tables events made was.
    subst (λ (h : RoomyHistory). IsSampling (record old { history = h.history }) names tables events made)
    (sym c.thin.ensures.rest)
    (sampling-thinned old c.thin.new.self.history.changes (length c.thin.new.self.history.changes)
    c.in_ok-places.places.items names tables events made c.in_ok-places.ensures.all c.thin.ensures.costs was))
