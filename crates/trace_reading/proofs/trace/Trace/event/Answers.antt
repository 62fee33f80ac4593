use Rattle.std.proofs.Common.{Some, ap, sym, ◌∙◌, length, arith}
use Rattle.std.proofs.lemmas.List.{length-map}
use Rattle.live_ledger.specs.Consistent.{info_of}
use Rattle.trace_reading.specs.EventText.{event_text}
use Rattle.trace_reading.specs.TraceFault.{told}
use Rattle.trace_reading.specs.declared.fault.TraceFault.TheVariants.{Line}
use Rattle.trace_reading.proofs.EventLemmas.{beside_whole}
use Rattle.trace_reading.proofs.InfoEvents.{event_read, event_refused, info_passes, least_text, unheld_refused}
use Rattle.trace_reading.proofs.trace.Trace.event.Goals as goal

pub returns-in-None-clause-fault : goal.returns-in-None-clause-fault
returns-in-None-clause-fault g c = λ patterns lines has.
    let before = c.args.self.now in
    let follower = g.F.Follower.view before.follower in
    let beside =
    beside_whole before.tables follower.ledger c.ledger.result.now c.ledger.ensures c.requires.sound.beside in
    unheld_refused c.hexadecimal_texts.ensures.reads_back g.F.Follower.faults before.tables follower c.args.kind
    c.args.info c.ranges.info.fits (omega (arith, c.in-None.ensures.none, ap length beside.infos, length-map c.ledger.result.now.infos info_of)) patterns lines has
    ∙ ap (λ error. Some (told (Line error))) (sym c.unheld_fault.ensures)

pub returns-in-Ok-clause-read : goal.returns-in-Ok-clause-read
returns-in-Ok-clause-read g c =
    let before = c.args.self.now in
    let follower = g.F.Follower.view before.follower in
    let texts = c.hexadecimal_texts.ensures in
    let passes =
    info_passes texts.reads_back before.tables follower.ledger c.ledger.result.now c.ledger.ensures
    c.requires.sound.beside c.args.kind c.args.info _ _ c.ranges.info.fits c.in-Some.ensures.some
    c.event_of_info-event.ensures in
    event_read g.F.Follower.faults before.tables follower (g.F.Follower.view c.event.new.self)
    (event_text c.args.kind c.args.info) c.event_of_info-event.result c.requires.sound passes
    (least_text c.args.kind c.args.info (texts.not_empty c.args.info (omega (arith, c.ranges.info.fits))))
    c.requires.room c.in-Ok.ensures.followed c.in-Ok.ensures.fault

pub returns-in-Err-Fault-clause-fault : goal.returns-in-Err-Fault-clause-fault
returns-in-Err-Fault-clause-fault g c =
    let before = c.args.self.now in
    let follower = g.F.Follower.view before.follower in
    let passes =
    info_passes c.hexadecimal_texts.ensures.reads_back before.tables follower.ledger c.ledger.result.now
    c.ledger.ensures c.requires.sound.beside c.args.kind c.args.info _ _ c.ranges.info.fits c.in-Some.ensures.some
    c.event_of_info-event.ensures in
    event_refused g.F.Follower.faults before.tables follower (event_text c.args.kind c.args.info)
    c.event_of_info-event.result c.in-Err-Fault.field-0 c.in-Err-Fault.fault passes c.in-Err-Fault.field-0-is
    c.in-Err-Fault.ensures.fault
