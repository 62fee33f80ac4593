use Rattle.std.proofs.Common.{◌≤◌, length, subst, arith}
use Rattle.std.specs.Arc.{arc_value}
use Rattle.record_scripts.specs.Events.{event_count}
use Rattle.record_book.specs.Actions.{actions}
use Rattle.record_book.specs.StreamState.{Streamed}
use Rattle.record_book.specs.HeapPlaces.{AreApart, live_blocks, places_after}
use Rattle.record_book.specs.Orders.{IsUnder}
use Rattle.record_book.proofs.StreamLemmas.{apart-of, count-within, under-of}
use Rattle.record_book.proofs.trace_stream.TraceStream.order.Goals as goal

pub returns-clause-under : goal.returns-clause-under
returns-clause-under c =
    let book = c.self.inside in
    subst (λ (r : Streamed). IsUnder r.job.scripts r.order) c.self.view_is
    (under-of (arc_value book.job) book.done.items book.order.items book.trace c.self.invariant.0)

pub returns-clause-apart : goal.returns-clause-apart
returns-clause-apart c =
    let book = c.self.inside in
    subst (λ (r : Streamed). AreApart (live_blocks (places_after (actions r.job.scripts r.order)))) c.self.view_is
    (apart-of (places_after (actions (arc_value book.job).scripts book.order.items))
    c.self.invariant.0.trace_is.heap_is.only)

pub returns-clause-few : goal.returns-clause-few
returns-clause-few c =
    let book = c.self.inside in
    subst (λ (r : Streamed). length r.order ≤ event_count r.job.scripts) c.self.view_is
    (omega (arith, c.self.invariant.0.count, count-within (arc_value book.job).scripts book.done.items))
