use Rattle.std.proofs.Common.{ℕ, [], List, length, sym, ap, ◌∙◌, subst}
use Rattle.std.specs.Arc.{arc_value}
use Rattle.record_scripts.specs.Job.{Job}
use Rattle.record_scripts.specs.Playable.{IsPlayable}
use Rattle.record_scripts.specs.ScriptNodes.{nodes_in}
use Rattle.record_book.specs.MappedNodes.{AreMapped}
use Rattle.record_book.specs.StreamState.{IsStream}
use Rattle.record_book.specs.Actions.{Action}
use Rattle.record_book.specs.RecordedTrace.{recorded, trace_text}
use Rattle.record_book.specs.TraceState.{IsTrace}
use Rattle.record_book.proofs.OrderLemmas.{actions-none}
use Rattle.record_book.proofs.StreamLemmas.{stream-none}
use Rattle.record_book.proofs.trace_stream.TraceStream.new.Goals as goal

pub invariant_of-result : goal.invariant_of-result
invariant_of-result c =
    let job = arc_value c.args.job in
    let modules = c.modules.ensures.lines ∙ ap (λ (j : Job). j.modules) c.deref-3.ensures in
    let stream =
    subst (λ (order : List ℕ). IsStream job c.in_ok-done.done.items order c.in_ok-trace.trace)
    (sym c.new-3.ensures.items)
    (stream-none job c.in_ok-done.done.items c.threads.result c.in_ok-trace.trace
    (c.in_ok-done.ensures.items_if_clones_equal (λ y same. same))
    (c.threads.ensures.count ∙ ap (λ (j : Job). length j.scripts) c.deref.ensures)
    (subst (λ (lines : List ℕ). IsTrace [] c.in_ok-trace.trace lines []) modules c.in_ok-trace.ensures.new)
    c.in_ok-trace.ensures.no_nodes c.in_ok-trace.ensures.end
    (subst IsPlayable c.deref.ensures c.threads.ensures.playable)) in (
      stream,
      subst (λ (j : Job). AreMapped c.in_ok-nodes.nodes (nodes_in j.scripts) c.in_ok-trace.trace.nodes)
          c.deref-2.ensures (c.in_ok-nodes.ensures.mapped c.in_ok-trace.trace.nodes),
    )

pub returns-clause-whole : goal.returns-clause-whole
returns-clause-whole c =
    let job = arc_value c.args.job in
    let modules = c.modules.ensures.lines ∙ ap (λ (j : Job). j.modules) c.deref-3.ensures in
    c.in_ok-trace.ensures.new.text_is ∙ ap (λ (lines : List ℕ). trace_text lines []) modules
    ∙ ap (λ (acts : List Action). trace_text job.modules acts) (sym (actions-none job.scripts))
    ∙ ap (λ (order : List ℕ). recorded job order) (sym c.new-3.ensures.items)
