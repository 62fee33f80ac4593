use Rattle.command_frame.proofs.Laws.{runs_wanting_by}
use Rattle.heaprec_commands.proofs.check_trace.check_trace.Goals as goal

pub returns-in_err-share : goal.returns-in_err-share
returns-in_err-share g c = runs_wanting_by _ _ _ _ _ _ _ _ c.from_residual.ensures.1

pub returns-in_err-check : goal.returns-in_err-check
returns-in_err-check g c = runs_wanting_by _ _ _ _ _ _ _ _ c.from_residual-in_err-check.ensures.1
