use Rattle.std.proofs.Common.{List, [], ◌++◌, sym, subst, refl, append-nil}
use Rattle.ht_trace.specs.TableState.{TableState}
use Rattle.live_ledger.specs.declared.event.Event.{Event}
use Rattle.massif_cull.specs.declared.snapshot.Offer.{Offer}
use Rattle.massif_sample.specs.FunctionNames.{FunctionNames}
use Rattle.massif_sample.specs.SamplesState.{SamplesState}
use Rattle.massif_sample.specs.StandsFor.{IsSampling}
use Rattle.massif_sample.proofs.Trees.{at_err}
use Rattle.massif_sample.proofs.taking.sample_before.Goals as goal

-- what samples stand for without one more offer
no-more : (samples : SamplesState) (names : FunctionNames) (tables : TableState) (events : List Event)
    (made : List Offer)
    → IsSampling samples names tables events made → IsSampling samples names tables events (made ++ [])
no-more samples names tables events made was =
    subst (λ (os : List Offer). IsSampling samples names tables events os) (sym (append-nil made)) was

pub returns-in-Alloc-clause-sampling : goal.returns-in-Alloc-clause-sampling
returns-in-Alloc-clause-sampling g c =
    rw c.in-Alloc.is
    (λ names events made texts judged stands was. no-more c.args.samples.now names c.args.stacks.now.tables.now events
    made was)

pub returns-in-Free-clause-sampling : goal.returns-in-Free-clause-sampling
returns-in-Free-clause-sampling g c = rw c.in-Free.is c.sample_ledger.ensures.sampling

pub returns-in-Free-clause-free : goal.returns-in-Free-clause-free
returns-in-Free-clause-free g c = rw c.in-Free.is (at_err c.sample_ledger.result refl)

pub returns-in-Tick-clause-sampling : goal.returns-in-Tick-clause-sampling
returns-in-Tick-clause-sampling g c =
    rw c.in-Tick.is
    (λ names events made texts judged stands was. no-more c.args.samples.now names c.args.stacks.now.tables.now events
    made was)
