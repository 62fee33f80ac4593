use Rattle.std.proofs.Common.{◌≡◌, rules}
use Rattle.massif_sample.proofs.sampler.Sampler.event.Goals as goal

pub returns-in-Ok-clause-stands : goal.returns-in-Ok-clause-stands
returns-in-Ok-clause-stands g c =
    let same : c.deref.result.now ≡ c.args.self.now.judged.items = search rules in
    let taken = rw same at c.in-Ok.ensures.stands in
    λ names events stated stands ledger. taken names events stated.alloc_fns stands ledger

pub returns-in-Ok-clause-fault : goal.returns-in-Ok-clause-fault
returns-in-Ok-clause-fault g c =
    let same : c.deref.result.now ≡ c.args.self.now.judged.items = search rules in
    rw same at c.in-Ok.ensures.fault
