use Rattle.command_frame.proofs.Laws.{runs_wanting_by}
use Rattle.trace_profiles.proofs.dhat_run.run_dhat.Goals as goal

pub returns-in_err-lives : goal.returns-in_err-lives
returns-in_err-lives g c = runs_wanting_by _ _ _ _ _ _ _ _ c.from_residual.ensures.1
