use Rattle.std.proofs.Common.{sym, ◌∙◌}
use Rattle.record_book.proofs.NextLemmas.{address-none, address-some}
use Rattle.record_book.proofs.heap.address.Goals as goal

pub returns-in-Some : goal.returns-in-Some
returns-in-Some c = λ heap places thread id of at.
    sym (address-some places thread id c.in-Some.entry
    (sym (of.live_blocks thread id) ∙ sym at ∙ c.in-Some.is))

pub returns-in-None : goal.returns-in-None
returns-in-None c = λ heap places thread id of at.
    sym (address-none places thread id (sym (of.live_blocks thread id) ∙ sym at ∙ c.in-None.is))
