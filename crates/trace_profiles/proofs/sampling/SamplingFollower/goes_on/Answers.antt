use Rattle.trace_profiles.proofs.SamplingLemmas.{stand_still}
use Rattle.trace_profiles.proofs.sampling.SamplingFollower.goes_on.Goals as goal

pub returns : goal.returns
returns g c = λ before after taken continues stands.
    let settings = g.T.Settled.settings in
    stand_still settings c.args.self.now.ledger c.args.self.now.sampler before after taken
    (λ flags samples stood. c.sampling_goes_on.ensures before after continues flags samples settings.names taken stood)
    stands
