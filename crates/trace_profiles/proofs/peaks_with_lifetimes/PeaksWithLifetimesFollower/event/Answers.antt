use Rattle.std.proofs.Common.{sym}
use Rattle.trace_profiles.proofs.LifetimesLemmas.{event_few, event_followed, event_held, event_possible}
use Rattle.trace_profiles.proofs.peaks_with_lifetimes.PeaksWithLifetimesFollower.event.Goals as goal

pub apply-requires : goal.apply-requires
apply-requires c =
    let before = c.args.self.now in
    record {
      held = event_held c.args._tables.now before.peaks before.lifetimes c.args.event c.requires;
      count = event_few c.args._tables.now before.peaks before.lifetimes c.args.event c.requires;
      possible =
          event_possible c.args._tables.now before.peaks c.take_event.new.peaks before.lifetimes c.args.event c.requires
          c.in-Ok.ensures.taken.stands;
    }

pub returns-in-Ok-clause-followed : goal.returns-in-Ok-clause-followed
returns-in-Ok-clause-followed c =
    let took = c.in-Ok.ensures.taken in
    event_followed c.args._tables.now c.args.self.now.peaks c.take_event.new.peaks c.args.self.now.lifetimes
    c.apply.new.self c.args.event c.requires.sound took.stacks took.infos took.at_most_one_more took.stands
    c.apply.ensures.stacks c.apply.ensures.stands

pub returns-in-Ok-clause-fault : goal.returns-in-Ok-clause-fault
returns-in-Ok-clause-fault c = λ taken stand. sym (c.in-Ok.ensures.fault taken stand.peaks)
