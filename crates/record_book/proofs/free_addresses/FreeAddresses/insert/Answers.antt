use Rattle.record_book.proofs.AddressLemmas.{distinct-put, has-more}
use Rattle.record_book.proofs.free_addresses.FreeAddresses.insert.Goals as goal

pub invariant_of-self-clause-distinct : goal.invariant_of-self-clause-distinct
invariant_of-self-clause-distinct c =
    distinct-put _ c.push.result _ _ _ c.push.ensures.permutation c.push.ensures.unchanged c.args.self.now.distinct
    c.requires

pub returns-clause-put : goal.returns-clause-put
returns-clause-put c = λ a. has-more _ _ _ c.in_ok-push.ensures.permutation a
