use Rattle.interpret.proofs.KeyLemmas.{key-apart}
use Rattle.interpret.proofs.start_index.StartIndex.insert.Goals as goal

pub returns-clause-others : goal.returns-clause-others
returns-clause-others c =
    λ number other apart. c.in_ok-insert.ensures.updates.2 (number, other)
    (key-apart c.args.«module» c.args.start number other apart)
