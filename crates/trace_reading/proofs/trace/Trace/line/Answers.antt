use Rattle.std.proofs.Common.{List, Option, length, sym, subst, ◌∙◌, ap, arith}
use Rattle.std.specs.Option.{option_map}
use Rattle.live_ledger.specs.declared.event.Event.{Event}
use Rattle.ht_trace.specs.TraceEvents.{events}
use Rattle.command_frame.specs.Taker.{Tells}
use Rattle.command_frame.specs.Told.{Told}
use Rattle.trace_reading.specs.TraceFault.{told}
use Rattle.trace_reading.specs.declared.fault.TraceFault.TheVariants.{Event as event_fault}
use Rattle.trace_reading.proofs.ReadingLemmas.{has_read, may_take, sound_still, taken_line, measure_still}
use Rattle.trace_reading.proofs.trace.Trace.line.Goals as goal

pub take_step-requires : goal.take_step-requires
take_step-requires g c =
    let before = c.args.self.now in
    let line = c.in-Ok.ensures in
    let view = g.F.Follower.view before.follower in
    may_take before.tables c.line.new.self view c.in-Ok.step (length c.args.line.now) c.requires.sound
    (line.can_take view.ledger c.requires.sound.beside) line.stack_held line.grows
    (c.goes_on.ensures before.tables c.line.new.self c.requires.sound.taken line.continues c.requires.sound.stands)
    line.least_length c.requires.room

pub returns-in-Ok-take_step-clause-read : goal.returns-in-Ok-take_step-clause-read
returns-in-Ok-take_step-clause-read g c =
    let before = c.args.self.now in
    let line = c.in-Ok.ensures in
    let old = g.F.Follower.view before.follower in
    let new = g.F.Follower.view c.take_step.new.follower in
    let goes : (taken : List Event) → old.stands before.tables taken → old.stands c.line.new.self taken =
    λ taken stands. c.goes_on.ensures before.tables c.line.new.self taken line.continues stands in
    let followed = c.in-Ok-take_step.ensures.followed in
    let measure =
    measure_still before.tables c.line.new.self old new c.in-Ok.step (length c.args.line.now) line.grows followed
    line.least_length in
    record {
      sound =
          sound_still before.tables c.line.new.self old new c.in-Ok.step c.requires.sound line.grows followed
          (goes c.requires.sound.taken c.requires.sound.stands) (omega (arith, measure, c.requires.room));
      measure = measure;
      no_fault = λ patterns lines has.
          taken_line g.F.Follower.faults c.line.new.self has.given patterns lines c.args.line.now c.in-Ok.step
          has.patterns_are (line.no_fault has.given lines has.tables_of) (line.stands has.given lines has.tables_of)
          (line.step has.given lines has.tables_of)
          ∙ ap (option_map (λ fault. told (event_fault fault)))
          (c.in-Ok-take_step.ensures.no_fault (events lines) (goes (events lines) has.stands));
      read =
          has_read before.tables c.line.new.self old new c.args.line.now c.in-Ok.step followed goes line.stands
          line.events;
    }

pub returns-in-Err-take_step-clause-fault : goal.returns-in-Err-take_step-clause-fault
returns-in-Err-take_step-clause-fault g c = λ patterns lines has.
    let line = c.in-Ok.ensures in
    subst (λ (found : Option Told). Tells told c.in-Err-take_step.refusal found)
    (sym (taken_line g.F.Follower.faults c.line.new.self has.given patterns lines c.args.line.now c.in-Ok.step
    has.patterns_are (line.no_fault has.given lines has.tables_of) (line.stands has.given lines has.tables_of)
    (line.step has.given lines has.tables_of)))
    (c.in-Err-take_step.ensures.fault (events lines)
    (c.goes_on.ensures c.args.self.now.tables c.line.new.self (events lines) line.continues has.stands))
