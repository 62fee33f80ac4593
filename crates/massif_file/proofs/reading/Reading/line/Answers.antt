-- A reading that was refused stays so.
use Rattle.std.proofs.Common.{◌∙◌, ap, rules}
use Rattle.massif_file.specs.declared.reading.Stage.{Stage}
use Rattle.massif_file.specs.Progress.{after}
use Rattle.massif_file.specs.Reading.{shown_at}
use Rattle.massif_file.proofs.ReadingLemmas.{unless_claim, after-refused}
use Rattle.massif_file.proofs.reading.Reading.line.Goals as goal

pub returns-in-Refused : goal.returns-in-Refused
returns-in-Refused c = record {
  taken = search rules;
  not_refused = search rules;
  kept = search rules;
  refused =
      unless_claim c.in-Refused.fault
      (ap (λ (s : Stage). after (shown_at s c.args.self.now) c.args.line.now) c.in-Refused.is
      ∙ after-refused c.in-Refused.fault c.args.line.now);
  again = search rules;
}
