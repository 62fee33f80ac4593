use Rattle.massif_cull.proofs.SnapsLemmas.{contains-at}
use Rattle.massif_cull.proofs.linked.LinkedSnaps.held.Goals as goal

pub held_at-requires : goal.held_at-requires
held_at-requires g c = contains-at _ _ _ c.requires

pub returns : goal.returns
returns g c = c.held_at.ensures _ c.requires
