use Rattle.std.proofs.Common.{ℕ, List, ◌++◌, refl, sym, ap, ◌∙◌, subst}
use Rattle.stack_table.specs.AreNodes.{AreNodes}
use Rattle.record_book.specs.RecordedTrace.{opening}
use Rattle.record_book.proofs.TraceLemmas.{law-none}
use Rattle.record_book.proofs.NodeLemmas.{numbered-none}
use Rattle.record_book.proofs.trace.Trace.new.Goals as goal

pub returns-clause-new : goal.returns-clause-new
returns-clause-new c = record {
  text_is =
      c.in_ok-put_bytes-2.ensures.appended
      ∙ ap (λ (text : List ℕ). text ++ c.args.modules.now)
      (c.in_ok-put_bytes.ensures.appended ∙ ap (λ (text : List ℕ). text ++ opening) c.new-text.ensures.items);
  nodes_are = numbered-none c.new-2.result (subst AreNodes (sym c.new-2.ensures.empty) law-none) c.new-2.ensures.empty;
  heap_is = c.in_ok-heap.ensures.empty;
  last_is = refl;
}
