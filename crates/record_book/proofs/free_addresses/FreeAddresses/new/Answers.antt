use Rattle.record_book.proofs.AddressLemmas.{distinct-none}
use Rattle.record_book.proofs.free_addresses.FreeAddresses.new.Goals as goal

pub invariant_of-result-clause-distinct : goal.invariant_of-result-clause-distinct
invariant_of-result-clause-distinct c = distinct-none _ c.new.ensures.items
