-- What one step says of all lines.
use Rattle.massif_file.specs.Reading.{shown}
use Rattle.massif_file.proofs.NoTruncation.{never_truncated}
use Rattle.massif_file.proofs.Profiles.{call_first}
use Rattle.massif_file.proofs.ReadingLemmas.{call_stands, call_fault}
use Rattle.massif_file.proofs.reader.ProfileReader.line.Goals as goal

pub returns-clause-step : goal.returns-clause-step
returns-clause-step c = rw (← c.self.view_is) c.line.ensures

pub returns-clause-lines : goal.returns-clause-lines
returns-clause-lines c =
    let step = rw c.self.view_is at c.line.ensures in
    record {
      stands =
          call_stands c.args.self.now (shown c.line.new.self) c.args.line.now c.line.result step.taken
          step.not_refused;
      not_truncated = never_truncated c.args.self.now c.args.line.now c.line.result step.refused;
      fault = call_fault c.args.self.now c.args.line.now c.line.result step.refused;
      first_fault = call_first c.args.self.now c.args.line.now c.line.result step.refused;
    }
