use Rattle.std.proofs.Common.{ℕ, List, ◌++◌, ap, ◌∙◌}
use Rattle.ht_lines.specs.Content.{raw_allocation_line}
use Rattle.record_book.specs.MappedNodes.{ips_of}
use Rattle.record_book.specs.RecordedTrace.{line_of}
use Rattle.record_book.proofs.TraceLemmas.{allocation-text}
use Rattle.record_book.proofs.trace.Trace.put_allocation.Goals as goal

pub returns-clause-put : goal.returns-clause-put
returns-clause-put c = λ known places are heap_is.
    let put = c.in_ok-node.ensures.put known are in
    let block = c.in_ok-ptr.ensures.put in
    let ptr = c.in_ok-ptr.ptr in
    record {
      text_is =
          allocation-text c.args.self.now.text.items c.put_stack.new.text.items
          c.put_alloc.new.text.items known (ips_of c.args.self.now.nodes c.args.stack)
          c.put_stack.new.nodes c.in_ok-node.node c.args.size ptr places c.args.thread
          c.args.id put c.in_ok-node.ensures.grown.held (block.address_is places heap_is)
          (c.in_ok-put_alloc.ensures.appended
          ∙ ap (λ (text : List ℕ). text ++ line_of (raw_allocation_line c.args.size c.from.result ptr))
          c.in_ok-reserve.ensures.items
          ∙ ap (λ (n : ℕ). c.put_stack.new.text.items
          ++ line_of (raw_allocation_line c.args.size n ptr)) c.from.ensures);
      nodes_are = put.numbered;
      heap_is = block.places_are places heap_is;
    }
