-- The end of the reading is the end of the lines.
use Rattle.std.proofs.Common.{◌∙◌, ap}
use Rattle.massif_file.specs.Progress.{end_of}
use Rattle.massif_file.proofs.Profiles.{end_is, end_only, end_writable, end_truncated, end_first}
use Rattle.massif_file.proofs.ReadingLemmas.{end_profile, end_fault}
use Rattle.massif_file.proofs.reader.ProfileReader.finish.Goals as goal

pub returns : goal.returns
returns c =
    let exact = c.end.ensures ∙ ap end_of c.self.view_is in
    record {
      exact = exact;
      read = end_is c.args.self c.end.result exact;
      only = end_only c.args.self c.end.result exact;
      writable = end_writable c.args.self c.end.result exact;
      truncated = end_truncated c.args.self c.end.result exact;
      first_fault = end_first c.args.self c.end.result exact;
      profile = end_profile c.args.self c.end.result exact;
      fault = end_fault c.args.self c.end.result exact;
    }
