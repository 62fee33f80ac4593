use Rattle.record_book.proofs.AddressLemmas.{distinct-left, takes-least}
use Rattle.record_book.proofs.free_addresses.FreeAddresses.take_first.Goals as goal

pub invariant_of-self-clause-distinct : goal.invariant_of-self-clause-distinct
invariant_of-self-clause-distinct c =
    distinct-left _ c.pop.result _ _ c.pop.ensures.permutation c.pop.ensures.unchanged c.args.self.now.distinct

pub returns-in-Some-clause-taken : goal.returns-in-Some-clause-taken
returns-in-Some-clause-taken c =
    let heap = c.args.self.now in
    let told = c.in-Some.ensures in
    takes-least c.in-Some.first _ _ told.permutation heap.distinct (told.heap_order heap.ordered).1
