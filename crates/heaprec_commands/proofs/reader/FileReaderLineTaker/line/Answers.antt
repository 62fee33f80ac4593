use Rattle.std.proofs.Common.{length, ap, ap₂, sym, ◌∙◌, arith}
use Rattle.record_scripts.specs.Job.{Job}
use Rattle.heaprec_commands.specs.declared.reader.InputKind.{InputKind}
use Rattle.heaprec_commands.specs.FileLines.{with_one}
use Rattle.heaprec_commands.proofs.LineLemmas.{count-one, lines-push}
use Rattle.heaprec_commands.proofs.reader.FileReaderLineTaker.line.Goals as goal

pub returns-in-Ok-clause-sound : goal.returns-in-Ok-clause-sound
returns-in-Ok-clause-sound g c = (
  c.requires.sound.0,
  λ is.
      let same =
      ap (λ (job : Job). length job.scripts) c.in-Ok.ensures.taken
      ∙ count-one c.args.self.now.kind c.args.self.now.scripts c.args.line.now in
      let some = c.requires.sound.1 is in
      omega (arith, same, some),
)

pub returns-in-Ok-clause-taken : goal.returns-in-Ok-clause-taken
returns-in-Ok-clause-taken g c = λ lines has.
    c.in-Ok.ensures.taken
    ∙ ap₂ (λ (kind : InputKind) (job : Job). with_one kind job c.args.line.now) c.requires.sound.0 has
    ∙ sym (lines-push g.B.Start.kind g.B.Start.job lines c.args.line.now)
