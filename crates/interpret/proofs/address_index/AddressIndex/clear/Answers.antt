use Rattle.std.proofs.Common.{refl}
use Rattle.interpret.proofs.HolderLemmas.{holder-none}
use Rattle.interpret.proofs.address_index.AddressIndex.clear.Goals as goal

pub returns : goal.returns
returns c = holder-none (record { changes = c.clear.new.self }) (λ k. rw c.clear.ensures.empty refl)
