use Rattle.std.proofs.Common.{refl}
use Rattle.interpret.proofs.HolderLemmas.{holder-none}
use Rattle.interpret.proofs.address_index.AddressIndex.new.Goals as goal

pub returns : goal.returns
returns c = holder-none (record { changes = c.new.result }) (λ k. rw c.new.ensures.empty refl)
