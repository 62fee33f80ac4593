use Rattle.std.proofs.Common.{◌≡◌, ℕ, List, sym, subst, ◌∙◌}
use Rattle.command_frame.specs.Batch.{TakesFirst}
use Rattle.heaprec_commands.specs.declared.reader.InputKind.{InputKind}
use Rattle.heaprec_commands.specs.declared.reader.InputKind.TheVariants.{Script}
use Rattle.heaprec_commands.specs.FileLines.{file_report, with_lines}
use Rattle.heaprec_commands.proofs.TakenLemmas.{given-first}
use Rattle.heaprec_commands.proofs.reader.FileReaderLineTaker.front.Goals as goal

pub returns-in-Script-clause-taken : goal.returns-in-Script-clause-taken
returns-in-Script-clause-taken g c =
    let output = c.args._output.now.items in
    let is : Script ≡ g.B.Start.kind = sym c.in-Script.is ∙ c.requires.sound.0 in
    subst (λ (kind : InputKind). TakesFirst (file_report kind g.B.Start.job)
    (λ (lines : List (List ℕ)). c.args.self.now.scripts ≡ with_lines kind g.B.Start.job lines)
    (λ (lines : List (List ℕ)). c.take_front.new.scripts ≡ with_lines kind g.B.Start.job lines) c.args.ready.now output
    output c.take_front.result)
    is
    (given-first output Script g.B.Start.job c.args.self.now.scripts c.take_front.new.scripts c.args.ready.now
    c.take_front.result c.take_front.ensures.taken c.take_front.ensures.untaken)
