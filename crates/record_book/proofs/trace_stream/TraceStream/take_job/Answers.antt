use Rattle.std.proofs.Common.{List, sym, subst}
use Rattle.std.specs.Arc.{arc_value}
use Rattle.record_scripts.specs.Job.{IsSameWork}
use Rattle.record_scripts.specs.ScriptNodes.{nodes_in}
use Rattle.record_scripts.specs.Turns.{Turn}
use Rattle.record_book.specs.MappedNodes.{AreMapped}
use Rattle.record_book.specs.StreamState.{Streamed}
use Rattle.record_book.proofs.StreamLemmas.{stream-moved}
use Rattle.record_book.proofs.trace_stream.TraceStream.take_job.Goals as goal

pub invariant_of-self : goal.invariant_of-self
invariant_of-self c =
    let stream = c.self.inside in
    let job = arc_value c.args.job in
    let same : IsSameWork (arc_value stream.job) job =
    subst (λ (r : Streamed). IsSameWork r.job job) (sym c.self.view_is) c.requires in (
      stream-moved (arc_value stream.job) job stream.done.items stream.order.items stream.trace same c.self.invariant.0,
      subst (λ (all : List (List Turn)). AreMapped stream.nodes (nodes_in all) stream.trace.nodes) same.same_scripts
          c.self.invariant.1,
    )
