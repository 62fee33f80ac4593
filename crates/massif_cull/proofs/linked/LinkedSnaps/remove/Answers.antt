use Rattle.massif_cull.proofs.SnapsLemmas.{contains-at}
use Rattle.massif_cull.proofs.linked.LinkedSnaps.remove.Goals as goal

pub take_out-requires : goal.take_out-requires
take_out-requires g c = contains-at _ _ _ c.requires

pub returns-clause-removes : goal.returns-clause-removes
returns-clause-removes g c = c.take_out.ensures.removes _ c.requires

pub returns-clause-held : goal.returns-clause-held
returns-clause-held g c = c.take_out.ensures.held _ c.requires
