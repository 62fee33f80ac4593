use Rattle.std.proofs.Common.{ℕ, List, ◌++◌, sym, ap, ◌∙◌, subst}
use Rattle.ht_lines.specs.Content.{raw_free_line}
use Rattle.record_scripts.specs.declared.script_line.ScriptLine.{ScriptLine}
use Rattle.record_scripts.specs.ScriptTurns.{turn_said}
use Rattle.record_book.specs.declared.trace.Trace.{Trace}
use Rattle.record_book.specs.MappedNodes.{ips_of}
use Rattle.record_book.specs.RecordedTrace.{line_of}
use Rattle.record_book.specs.TakenTurn.{IsFresh}
use Rattle.record_book.specs.TraceState.{HasTurn}
use Rattle.record_book.proofs.TraceLemmas.{on-ok, reallocation}
use Rattle.record_book.proofs.trace.Trace.put_events.Goals as goal

pub put_allocation-requires-clause-left : goal.put_allocation-requires-clause-left
put_allocation-requires-clause-left c =
    sym (subst
    (λ (turn : ScriptLine). IsFresh c.args.self.now.heap c.args.thread
    (turn_said turn (ips_of c.args.self.now.nodes c.args.stack)))
    c.in-Allocation.is c.requires.fresh)

pub returns-in-Allocation-clause-put : goal.returns-in-Allocation-clause-put
returns-in-Allocation-clause-put c =
    on-ok c.put_allocation.result _ _ (λ put known places are heap_is.
    subst (λ (turn : ScriptLine). HasTurn c.args.self.now.text.items c.put_allocation.new.self known places
    c.args.thread (turn_said turn (ips_of c.args.self.now.nodes c.args.stack))) (sym
    c.in-Allocation.is)
    (put known places are heap_is)) c.put_allocation.ensures.put

pub returns-in_ok-put_free-in-Free-clause-put : goal.returns-in_ok-put_free-in-Free-clause-put
returns-in_ok-put_free-in-Free-clause-put c = λ known places are heap_is.
    let trace = c.args.self.now in
    let new : Trace =
    record { text = c.put_free.new.text; nodes = trace.nodes; heap = c.release.new.self; last = trace.last } in
    subst (λ (turn : ScriptLine). HasTurn trace.text.items new known places c.args.thread
    (turn_said turn (ips_of c.args.self.now.nodes c.args.stack))) (sym
    c.in-Free.is)
    (record {
      text_is =
          c.in_ok-put_free-in-Free.ensures.appended
          ∙ ap (λ (text : List ℕ). text ++ line_of (raw_free_line c.in_ok-ptr-in-Free.ptr))
          c.in_ok-reserve-in-Free.ensures.items
          ∙ ap (λ (n : ℕ). c.args.self.now.text.items ++ line_of (raw_free_line n))
          (c.in_ok-ptr-in-Free.ensures.freed.address_is places heap_is);
      nodes_are = are;
      heap_is = c.in_ok-ptr-in-Free.ensures.freed.places_are places heap_is;
    })

pub returns-in_ok-put_free-in-Reallocation-clause-put : goal.returns-in_ok-put_free-in-Reallocation-clause-put
returns-in_ok-put_free-in-Reallocation-clause-put c =
    on-ok c.put_allocation-in-Reallocation.result _ _ (λ put known places are heap_is.
    subst (λ (turn : ScriptLine). HasTurn c.args.self.now.text.items c.put_allocation-in-Reallocation.new.self known
    places c.args.thread (turn_said turn (ips_of c.args.self.now.nodes c.args.stack))) (sym
    c.in-Reallocation.is)
    (reallocation c.args.self.now.text.items c.put_free-in-Reallocation.new.text.items
    c.put_allocation-in-Reallocation.new.self known places c.args.thread c.in-Reallocation.id c.in-Reallocation.size
    (ips_of c.args.self.now.nodes c.args.stack)
    (c.in_ok-put_free-in-Reallocation.ensures.appended
    ∙ ap (λ (n : ℕ). c.args.self.now.text.items ++ line_of (raw_free_line n))
    (c.address.ensures c.args.self.now.heap places c.args.thread c.in-Reallocation.id heap_is
    c.entry-left.ensures.entry))
    (put known places are heap_is))) c.put_allocation-in-Reallocation.ensures.put
