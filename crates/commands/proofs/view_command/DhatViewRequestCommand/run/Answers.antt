use Rattle.command_frame.specs.RunsTo.{taken}
use Rattle.commands.proofs.view_command.DhatViewRequestCommand.run.Goals as goal

pub returns : goal.returns
returns g c = c.run_dhat_file.ensures (taken g.O.Sink c.args._out.now)
