use Rattle.massif_cull.proofs.linked.LinkedSnaps.place_before.Goals as goal

pub returns-clause-place : goal.returns-clause-place
returns-clause-place g c k at =
    let here = rw (← c.self.view_is) at at in
    rw (← c.self.view_is) (c.prev.ensures.place k here)
