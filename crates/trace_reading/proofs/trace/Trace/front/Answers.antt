use Rattle.std.proofs.Common.{subst, sym, arith}
use Rattle.live_ledger.specs.LedgerState.{IsHeld, LedgerState}
use Rattle.trace_reading.specs.Reading.{HasReadFirst}
use Rattle.trace_reading.proofs.EventLemmas.{beside_whole}
use Rattle.trace_reading.proofs.ReadingLemmas.{as_before, first_read, first_unread, may_take_event}
use Rattle.trace_reading.proofs.trace.Trace.front.Goals as goal

pub event-requires : goal.event-requires
event-requires g c =
    let before = c.args.self.now in
    let line = c.in_ok-line.ensures in
    let beside =
    beside_whole before.tables (g.F.Follower.view before.follower).ledger c.ledger.result.now c.ledger.ensures
    c.requires.sound.beside in
    may_take_event before.tables (g.F.Follower.view before.follower) c.in_ok-line.line.event _ c.requires.sound
    (subst (λ (ledger : LedgerState). IsHeld ledger c.in_ok-line.line.event) c.ledger.ensures line.held_event)
    (line.held_stack before.tables beside) (omega (arith, line.least_length, line.least, line.held)) c.requires.room

pub returns-in-Ok-clause-read : goal.returns-in-Ok-clause-read
returns-in-Ok-clause-read g c =
    let before = c.args.self.now in
    let line = c.in_ok-line.ensures in
    let beside =
    beside_whole before.tables (g.F.Follower.view before.follower).ledger c.ledger.result.now c.ledger.ensures
    c.requires.sound.beside in
    first_read g.F.Follower.faults before.tables (g.F.Follower.view before.follower)
    (g.F.Follower.view c.event.new.self) c.args.ready.now c.in_ok-line.line.bytes c.in_ok-line.line.event
    c.requires.sound
    (line.front before.tables beside) line.least line.held c.requires.room c.in-Ok.ensures.followed
    c.in-Ok.ensures.fault

pub returns-in-Err-clause-read : goal.returns-in-Err-clause-read
returns-in-Err-clause-read g c =
    let before = c.args.self.now in
    first_unread g.F.Follower.faults before.tables (g.F.Follower.view before.follower)
    (g.F.Follower.view c.event.new.self) c.args.ready.now c.requires.sound c.in-Err.ensures.unchanged

pub returns-in_err-line-clause-read : goal.returns-in_err-line-clause-read
returns-in_err-line-clause-read g c =
    let before = c.args.self.now in
    let view = g.F.Follower.view before.follower in
    subst (HasReadFirst g.F.Follower.faults before.tables view view c.args.ready.now) (sym c.from_residual.ensures)
    (first_unread g.F.Follower.faults before.tables view view c.args.ready.now c.requires.sound (as_before view))
