use Rattle.std.proofs.Common.{◌==◌, length, ap, ◌∙◌, subst}
use Rattle.std.specs.Prelude.{◌↔◌, IsTrue}
use Rattle.std.specs.Arc.{arc_value}
use Rattle.record_scripts.specs.Events.{event_count}
use Rattle.record_scripts.specs.Job.{Job}
use Rattle.record_book.specs.Orders.{IsInterleaving}
use Rattle.record_book.specs.StreamState.{Streamed}
use Rattle.record_book.proofs.StreamLemmas.{complete-is}
use Rattle.record_book.proofs.trace_stream.TraceStream.is_complete.Goals as goal

pub returns : goal.returns
returns c =
    let stream = c.self.inside in
    subst (λ (r : Streamed). IsTrue (length c.as_slice-order.result.now == c.events.result) ↔ IsInterleaving
    r.job.scripts r.order) c.self.view_is
    (complete-is (arc_value stream.job) stream.done.items stream.order.items stream.trace
    (length c.as_slice-order.result.now) c.events.result c.self.invariant.0
    (ap length c.as_slice-order.ensures.value)
    (c.events.ensures.count ∙ ap (λ (j : Job). event_count j.scripts) c.deref.ensures))
