use Rattle.std.proofs.Common.{Ok, arith, rules}
use Rattle.massif_sample.specs.declared.fault.SampleFault.TheVariants as sample
use Rattle.trace_profiles.proofs.LifetimesLemmas.{line_length}
use Rattle.trace_profiles.proofs.SamplingLemmas.{at_some, event_followed, event_let_go, fault_told, known_told}
use Rattle.trace_profiles.proofs.SamplingLemmas.{left_alone}
use Rattle.trace_profiles.proofs.sampling.SamplingFollower.event.Goals as goal

pub event-requires-clause-event : goal.event-requires-clause-event
event-requires-clause-event g c =
    let at = at_some _ c.in-Some.sampler _ c.in-Some.is c.requires.stands in
    let settled = at_some _ c.in-Some.sampler _ c.in-Some.is c.requires.sound in
    record {
      held = search rules;
      count = omega (arith, line_length c.args.event, c.requires.room);
      stacks = omega (arith, c.requires.stacks);
      judged = omega (arith, settled.judged, c.requires.stacks);
      stands = λ going. (g.T.Settled.settings.names, c.requires.taken, at.sampling, at.figures);
    }

pub returns-in-Ok-clause-followed : goal.returns-in-Ok-clause-followed
returns-in-Ok-clause-followed g c =
    let settings = g.T.Settled.settings in
    let settled = at_some _ c.in-Some.sampler _ c.in-Some.is c.requires.sound in
    let sampler = c.in-Ok.ensures in
    event_followed settings _ c.args.tables.now c.args.self.now.ledger c.event.new.ledger c.args.self.now.sampler
    c.in-Some.sampler c.event.new.self c.args.event c.in-Some.is settled sampler.left.applied
    (λ events stood figures. sampler.stands settings.names events settled.meant.2 stood figures) sampler.left.judged
    sampler.left.options sampler.left.alloc_fns sampler.left.ignore_fns

pub returns-in-Ok-clause-fault : goal.returns-in-Ok-clause-fault
returns-in-Ok-clause-fault g c =
    fault_told g.T.Settled.settings _ c.args.self.now.ledger c.args.self.now.sampler c.in-Some.sampler
    c.args.tables.now c.args.event (Ok tt) c.in-Some.is c.requires.sound c.in-Ok.ensures.fault

pub returns-in-Err-FreeOfNothing-clause-fault : goal.returns-in-Err-FreeOfNothing-clause-fault
returns-in-Err-FreeOfNothing-clause-fault g c =
    known_told g.T.Settled.settings _ c.args.self.now.ledger c.args.self.now.sampler c.in-Some.sampler
    c.args.tables.now c.args.event _ sample.FreeOfNothing c.in-Some.is c.requires.sound
    c.in-Err-FreeOfNothing.field-0-is c.in-Err-FreeOfNothing.ensures.fault

pub returns-in-Err-FreeOfNothing-clause-unchanged : goal.returns-in-Err-FreeOfNothing-clause-unchanged
returns-in-Err-FreeOfNothing-clause-unchanged g c =
    left_alone g.T.Settled.settings _ c.args.self.now.ledger c.event.new.ledger c.args.self.now.sampler
    c.in-Some.sampler c.event.new.self c.args.event _ sample.FreeOfNothing c.in-Some.is
    c.in-Err-FreeOfNothing.field-0-is (λ clash. cc) c.in-Err-FreeOfNothing.ensures.left

pub returns-in-Err-CostTooLarge-clause-fault : goal.returns-in-Err-CostTooLarge-clause-fault
returns-in-Err-CostTooLarge-clause-fault g c =
    known_told g.T.Settled.settings _ c.args.self.now.ledger c.args.self.now.sampler c.in-Some.sampler
    c.args.tables.now c.args.event _ sample.CostTooLarge c.in-Some.is c.requires.sound
    c.in-Err-CostTooLarge.field-0-is c.in-Err-CostTooLarge.ensures.fault

pub returns-in-Err-CostTooLarge-clause-unchanged : goal.returns-in-Err-CostTooLarge-clause-unchanged
returns-in-Err-CostTooLarge-clause-unchanged g c =
    left_alone g.T.Settled.settings _ c.args.self.now.ledger c.event.new.ledger c.args.self.now.sampler
    c.in-Some.sampler c.event.new.self c.args.event _ sample.CostTooLarge c.in-Some.is
    c.in-Err-CostTooLarge.field-0-is (λ clash. cc) c.in-Err-CostTooLarge.ensures.left

pub returns-in-Err-NoMemory-clause-followed : goal.returns-in-Err-NoMemory-clause-followed
returns-in-Err-NoMemory-clause-followed g c =
    event_let_go g.T.Settled.settings _ c.args.tables.now c.args.self.now.ledger c.let_go.new.self.ledger
    c.args.self.now.sampler c.let_go.new.self.sampler c.args.event c.let_go.ensures.sampler
    (rw c.let_go.ensures.ledger c.in-Err-NoMemory.ensures.left.applied_or_not)

pub returns-in-Err-NoMemory-clause-fault : goal.returns-in-Err-NoMemory-clause-fault
returns-in-Err-NoMemory-clause-fault g c =
    known_told g.T.Settled.settings _ c.args.self.now.ledger c.args.self.now.sampler c.in-Some.sampler
    c.args.tables.now c.args.event _ sample.NoMemory c.in-Some.is c.requires.sound
    c.in-Err-NoMemory.field-0-is c.in-Err-NoMemory.ensures.fault
