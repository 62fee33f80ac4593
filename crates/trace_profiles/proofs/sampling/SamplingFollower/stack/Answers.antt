use Rattle.trace_profiles.proofs.SamplingLemmas.{at_some, stack_followed}
use Rattle.trace_profiles.proofs.sampling.SamplingFollower.stack.Goals as goal

pub returns-in-Ok-stack : goal.returns-in-Ok-stack
returns-in-Ok-stack g c =
    let settings = g.T.Settled.settings in
    let settled = at_some _ c.in-Some.sampler _ c.in-Some.is c.requires.sound in
    let ledger = c.in-Ok.ensures in
    let sampler = c.in-Ok-stack.ensures in
    stack_followed settings _ c.args.tables.now c.args.self.now.ledger c.grow_stack.new.self c.args.self.now.sampler
    c.in-Some.sampler c.stack.new.self c.in-Some.is settled ledger.grown ledger.stands
    (λ events stood. sampler.stands settings.names events settled.meant.2 stood) sampler.judges.judged
    sampler.judges.samples sampler.judges.alloc_fns sampler.judges.ignore_fns
