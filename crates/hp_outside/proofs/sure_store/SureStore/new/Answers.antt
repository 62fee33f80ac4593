use Rattle.std.proofs.Common.{ap}
use Rattle.hp_outside.specs.HeldFiles.{folder_of}
use Rattle.hp_outside.proofs.HeldFilesLemmas.{file_of-empty}
use Rattle.hp_outside.proofs.sure_store.SureStore.new.Goals as goal

pub returns-clause-none_held : goal.returns-clause-none_held
returns-clause-none_held c = λ name. file_of-empty _ name (ap folder_of c.new.ensures.items)
