use Rattle.massif_cull.proofs.SnapsLemmas.{are-placed}
use Rattle.massif_cull.proofs.linked.LinkedSnaps.place_after.Goals as goal

pub returns-clause-place : goal.returns-clause-place
returns-clause-place g c k at =
    let here = rw (← c.self.view_is) at at in
    rw (← c.self.view_is) (c.next.ensures.place k here)

pub returns-clause-placed : goal.returns-clause-placed
returns-clause-placed g c = rw (← c.self.view_is) (are-placed c.self.inside c.self.invariant)
