use Rattle.std.proofs.Common.{◌≡◌, ◌≤◌, Some, ap, sym, subst, ◌∙◌, arith, length, slice_get}
use Rattle.live_ledger.specs.LedgerState.{HeldInfo, IsHeld}
use Rattle.live_ledger.specs.TotalsState.{ledger_of}
use Rattle.ht_trace.specs.HeldStack.{HasHeldEvent}
use Rattle.ht_trace.specs.LedgerFits.{least_length_of}
use Rattle.ht_trace.specs.PassesLine.{PassesLine}
use Rattle.ht_trace.proofs.Laws.{passes_event}
use Rattle.trace_reading.proofs.EventLemmas.{event_is_held, event_is_among, least_of_event}
use Rattle.trace_reading.proofs.front.line_at_front.Goals as goal

pub returns-clause-front : goal.returns-clause-front
returns-clause-front c = λ tables beside.
    let begins = c.in_ok-line.ensures in
    let held : HeldInfo = record { stack = c.in_ok-size.stack; size = c.in_ok-size.size } in
    let found : slice_get tables.infos c.in_ok-line.line.info ≡ Some held =
    ap (λ infos. slice_get infos c.in_ok-line.line.info) (sym beside.infos) ∙ c.in_ok-size.ensures.some in
    record {
      line = begins.line;
      one_line = begins.one_line;
      short = omega (arith, begins.at_most);
      rest = begins.rest;
      split = begins.split;
      size = begins.counted;
      passes = subst (λ event. PassesLine tables begins.line event) (sym c.event_of_info-event.ensures)
          (passes_event tables begins.line c.in_ok-line.line.kind c.in_ok-line.line.info held begins.said found);
    }

pub returns-clause-held_event : goal.returns-clause-held_event
returns-clause-held_event c =
    let held : HeldInfo = record { stack = c.in_ok-size.stack; size = c.in_ok-size.size } in
    subst (IsHeld (ledger_of c.args.ledger.now)) (sym c.event_of_info-event.ensures)
    (event_is_among (ledger_of c.args.ledger.now) c.in_ok-line.line.kind c.in_ok-line.line.info held
    c.in_ok-size.ensures.some)

pub returns-clause-held_stack : goal.returns-clause-held_stack
returns-clause-held_stack c = λ tables beside.
    let held : HeldInfo = record { stack = c.in_ok-size.stack; size = c.in_ok-size.size } in
    let few : held.stack ≤ length tables.nodes = omega (arith, c.in_ok-size.ensures.stack_held, beside.stacks) in
    subst (HasHeldEvent tables) (sym c.event_of_info-event.ensures)
    (event_is_held tables c.in_ok-line.line.kind c.in_ok-line.line.info held few)

pub returns-clause-least_length : goal.returns-clause-least_length
returns-clause-least_length c =
    let held : HeldInfo = record { stack = c.in_ok-size.stack; size = c.in_ok-size.size } in
    ap least_length_of c.event_of_info-event.ensures ∙ least_of_event c.in_ok-line.line.kind c.in_ok-line.line.info held
