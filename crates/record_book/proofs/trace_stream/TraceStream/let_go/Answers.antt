use Rattle.std.proofs.Common.{refl}
use Rattle.std.specs.Arc.{arc_value}
use Rattle.record_book.proofs.StreamLemmas.{let-go}
use Rattle.record_book.proofs.trace_stream.TraceStream.let_go.Goals as goal

pub invariant_of-self : goal.invariant_of-self
invariant_of-self c =
    let stream = c.self.inside in (
      let-go (arc_value stream.job) stream.done.items stream.order.items stream.trace _ c.self.invariant.0
          c.clear.ensures.items refl refl refl,
      c.self.invariant.1,
    )
