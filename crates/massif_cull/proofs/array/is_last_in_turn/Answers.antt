use Rattle.massif_cull.proofs.Standing.{turn-ends}
use Rattle.massif_cull.proofs.array.is_last_in_turn.Goals as goal

pub returns : goal.returns
returns c = turn-ends _ _ c.requires
