use Rattle.record_book.specs.HeapState.{has_place}
use Rattle.record_book.proofs.NextLemmas.{end-stays, end-up, free-first, next-end, next-free, none-taken}
use Rattle.record_book.proofs.heap.Heap.take_address.Goals as goal

pub returns-in-Some-clause-taken : goal.returns-in-Some-clause-taken
returns-in-Some-clause-taken c = λ live places of.
    let heap = c.args.self.now in
    let took = c.in-Some.ensures.taken in
    let address = c.in-Some.address in
    record {
      next = next-free live (has_place heap.free) heap.end places c.args.class address of took.held took.first;
      left = took.left;
      end_is =
          end-stays address heap.end c.args.class
          (free-first live (has_place heap.free) heap.end places c.args.class address of took.held);
    }

pub returns-in-None-clause-taken : goal.returns-in-None-clause-taken
returns-in-None-clause-taken c = λ live places of.
    let heap = c.args.self.now in
    record {
      next = next-end live (has_place heap.free) heap.end places c.args.class of c.in-None.ensures.none;
      left =
          none-taken (has_place heap.free) (has_place c.take_first.new.self) c.args.class heap.end
          c.in-None.ensures.none
          c.in-None.ensures.unchanged;
      end_is = end-up heap.end c.args.class;
    }
