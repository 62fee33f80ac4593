use Rattle.trace_profiles.proofs.SamplingLemmas.{info_followed}
use Rattle.trace_profiles.proofs.sampling.SamplingFollower.info.Goals as goal

pub returns-in-Ok : goal.returns-in-Ok
returns-in-Ok g c =
    let ledger = c.in-Ok.ensures in
    info_followed g.T.Settled.settings _ c.args._tables.now c.args.self.now.ledger c.grow_info.new.self
    c.args.self.now.sampler c.args.stack c.args.size c.requires.sound ledger.info.infos ledger.info.stacks
    ledger.info.totals ledger.stands
