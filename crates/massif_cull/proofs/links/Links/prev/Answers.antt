use Rattle.std.proofs.Common.{arith}
use Rattle.massif_cull.proofs.LinksLemmas.{contained-below, prev-is, prev-is_front, prev-below}
use Rattle.massif_cull.proofs.links.Links.prev.Goals as goal

pub index-requires : goal.index-requires
index-requires c =
    let held = rw (← c.self.view_is) at c.requires in
    omega (arith, contained-below c.self.inside c.args.place c.self.invariant held, c.self.invariant.prev_length)

pub returns-clause-place : goal.returns-clause-place
returns-clause-place c =
    let held = rw (← c.self.view_is) at c.requires in
    rw (← c.self.view_is)
    (prev-is c.self.inside c.args.place _ _ c.self.invariant held c.unless_end.ensures c.index.ensures)

pub returns-clause-below : goal.returns-clause-below
returns-clause-below c =
    let held = rw (← c.self.view_is) at c.requires in
    rw (← c.self.view_is)
    (prev-below c.self.inside c.args.place _ _ c.self.invariant held c.unless_end.ensures c.index.ensures)

pub returns-clause-front : goal.returns-clause-front
returns-clause-front c =
    let held = rw (← c.self.view_is) at c.requires in
    rw (← c.self.view_is)
    (prev-is_front c.self.inside c.args.place _ _ c.self.invariant held c.unless_end.ensures c.index.ensures)
