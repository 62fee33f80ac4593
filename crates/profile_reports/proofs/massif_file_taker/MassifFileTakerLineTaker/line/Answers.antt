use Rattle.std.proofs.Common.{[], ◌∷◌, ◌++◌}
use Rattle.massif_file.specs.Progress.{end_of}
use Rattle.profile_reports.proofs.MassifFileLemmas.{told-none}
use Rattle.profile_reports.proofs.massif_file_taker.MassifFileTakerLineTaker.line.Goals as goal

pub returns-in-Ok-clause-no_fault : goal.returns-in-Ok-clause-no_fault
returns-in-Ok-clause-no_fault g c = λ lines taken.
    told-none lines c.args.line.now (end_of c.line.new.self)
    (c.massif_profiles.ensures.stands c.line.new.self (lines ++ c.args.line.now ∷ [])
    (c.in-Ok.ensures.lines.stands lines taken.0))
