-- A reading that was refused stays so.
use Rattle.std.proofs.Common.{ap}
use Rattle.massif_file.specs.declared.reading.Stage.{Stage}
use Rattle.massif_file.specs.Progress.{taken}
use Rattle.massif_file.specs.Reading.{shown_at}
use Rattle.massif_file.proofs.ReadingLemmas.{unless_claim}
use Rattle.massif_file.proofs.reading.Reading.take.Goals as goal

pub returns-in-Refused : goal.returns-in-Refused
unfolding taken
returns-in-Refused c =
    unless_claim c.in-Refused.fault
    (ap (λ (s : Stage). taken (shown_at s c.args.self.now) c.args.line.now) c.in-Refused.is)
