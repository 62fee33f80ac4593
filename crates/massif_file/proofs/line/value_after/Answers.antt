use Rattle.massif_file.proofs.LineLemmas.{strips}
use Rattle.massif_file.proofs.line.value_after.Goals as goal

pub returns : goal.returns
returns c = strips c.args.key.now c.args.line.now c.strip_prefix.result c.strip_prefix.ensures.cases
