use Rattle.std.proofs.Common.{subst}
use Rattle.std.specs.Arc.{arc_value}
use Rattle.record_book.specs.Orders.{IsUnder}
use Rattle.record_book.specs.StreamState.{Streamed}
use Rattle.record_book.proofs.StreamLemmas.{under-of}
use Rattle.record_book.proofs.trace_stream.TraceStream.scripts.Goals as goal

pub returns-clause-under : goal.returns-clause-under
returns-clause-under c =
    let stream = c.self.inside in
    subst (λ (r : Streamed). IsUnder r.job.scripts r.order) c.self.view_is
    (under-of (arc_value stream.job) stream.done.items stream.order.items stream.trace c.self.invariant.0)
