use Rattle.command_frame.proofs.RunsToLemmas.{runs_wanting_by}
use Rattle.command_frame.proofs.run.run_one_file.Goals as goal

pub returns-in_default : goal.returns-in_default
returns-in_default g c = runs_wanting_by _ _ _ _ _ _ _ _ c.no_memory.ensures
